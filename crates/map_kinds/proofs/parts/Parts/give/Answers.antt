use Rattle.bpf_model.proofs.Prelude.{◌∙◌, sym, ap, subst}
use Rattle.element_store.proofs.Prelude.{ArenaState, given_back, deferred_lists}
use Rattle.map_kinds.specs.Parted.{PartsView, IsInHand}
use Rattle.map_kinds.proofs.Moves.{given-step}
use Rattle.map_kinds.proofs.parts.Parts.give.Goals as goal

pub invariant_of-self : goal.invariant_of-self
invariant_of-self g c =
    let held = subst (λ (p : PartsView). IsInHand p c.args.slot) (sym c.self.view_is) c.requires.held in
    (given-step g.row.I.Denot g.I.Index.contents g.I.Index.fits g.met.I.Index.frame c.self.inside.index
    c.self.inside.deferred c.self.inside.arena c.give.new.self c.args.slot c.self.invariant held
    c.give.ensures.new).0

pub returns-clause-new : goal.returns-clause-new
returns-clause-new g c =
    let held = subst (λ (p : PartsView). IsInHand p c.args.slot) (sym c.self.view_is) c.requires.held in
    let s = given-step g.row.I.Denot g.I.Index.contents g.I.Index.fits g.met.I.Index.frame c.self.inside.index
    c.self.inside.deferred c.self.inside.arena c.give.new.self c.args.slot c.self.invariant held
    c.give.ensures.new in
    s.1
    ∙ (ap (λ (z : ArenaState). let r : PartsView = record {
      index =
          g.I.Index.contents c.self.inside.index c.self.inside.arena;
      lists =
          deferred_lists c.self.inside.deferred c.self.inside.arena;
      arena = z;
    } in r) c.give.ensures.new
    ∙ ap (λ (p : PartsView). let r : PartsView = record { index = p.index; lists = p.lists; arena = given_back p.arena c.args.slot } in r) c.self.view_is)
