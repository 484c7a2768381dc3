use Rattle.bpf_model.proofs.Prelude.{◌∙◌, sym, ap, subst, byte_count, with_bytes}
use Rattle.element_store.proofs.Prelude.{ArenaState, deferred_lists, with_slot_value, value_at}
use Rattle.map_kinds.specs.Parted.{PartsView, IsInUse}
use Rattle.map_kinds.proofs.Parting.{standing-taken}
use Rattle.map_kinds.proofs.Moves.{written-step}
use Rattle.map_kinds.proofs.parts.Parts.store.Goals as goal

pub invariant_of-self : goal.invariant_of-self
invariant_of-self g c =
    let stands = subst (λ (p : PartsView). IsInUse p.index p.arena.slots p.lists c.args.slot) (sym c.self.view_is) c.requires.stands in
    let in_ = (standing-taken _ c.args.slot c.self.invariant.1 stands).inside in
    (written-step g.row.I.Denot g.I.Index.contents g.I.Index.fits g.met.I.Index.frame c.self.inside.index
    c.self.inside.deferred c.self.inside.arena c.store.new.self c.args.slot _ c.self.invariant in_
    c.store.ensures).0

pub returns : goal.returns
returns g c =
    let stands = subst (λ (p : PartsView). IsInUse p.index p.arena.slots p.lists c.args.slot) (sym c.self.view_is) c.requires.stands in
    let in_ = (standing-taken _ c.args.slot c.self.invariant.1 stands).inside in
    let s = written-step g.row.I.Denot g.I.Index.contents g.I.Index.fits g.met.I.Index.frame c.self.inside.index
    c.self.inside.deferred c.self.inside.arena c.store.new.self c.args.slot _ c.self.invariant in_
    c.store.ensures in
    s.1
    ∙ (ap (λ (z : ArenaState). let r : PartsView = record {
      index =
          g.I.Index.contents c.self.inside.index c.self.inside.arena;
      lists =
          deferred_lists c.self.inside.deferred c.self.inside.arena;
      arena = z;
    } in r) c.store.ensures
    ∙ ap (λ (p : PartsView). let r : PartsView = record {
      index = p.index;
      lists = p.lists;
      arena =
          with_slot_value p.arena c.args.slot (with_bytes c.args.offset (byte_count c.args.width) c.args.number
          (value_at p.arena.slots c.args.slot));
    } in r) c.self.view_is)
