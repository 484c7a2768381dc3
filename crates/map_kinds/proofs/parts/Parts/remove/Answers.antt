use Rattle.bpf_model.proofs.Prelude.{◌≡◌, ◌∙◌, ℕ, None, Some, sym, ap, KeyMap}
use Rattle.element_store.proofs.Prelude.{ArenaState, retired_lists, deferred_lists}
use Rattle.std.specs.FinMap as map
use Rattle.hash_index.proofs.Runs.{remove_absent}
use Rattle.map_kinds.specs.Parted.{PartsView, IsInHand}
use Rattle.map_kinds.specs.Updated.{unlinked_of}
use Rattle.map_kinds.proofs.Becoming.{Become, parts_over}
use Rattle.map_kinds.proofs.Moves.{removed-step, retired-step}
use Rattle.map_kinds.proofs.Replacing.{links-on}
use Rattle.map_kinds.proofs.parts.Parts.remove.Given.{Over}
use Rattle.map_kinds.proofs.parts.Parts.remove.Goals.{After-unlink, After-retire}
use Rattle.map_kinds.proofs.parts.Parts.remove.Goals as goal

-- the parts once the key's slot was unlinked, which is in hand
unlinked : (g : Over) (c : After-unlink g) → Become g.row.I.Denot g.I.Index.contents g.I.Index.fits c.unlink.new.self
    c.self.inside.deferred c.unlink.new.arena (record {
      index = map.remove (g.I.Index.contents c.self.inside.index c.self.inside.arena) c.args.key.now;
      lists = deferred_lists c.self.inside.deferred c.self.inside.arena;
      arena = c.unlink.new.arena;
    }) × ((i : ℕ) → c.unlink.result ≡ Some i →
    IsInHand (parts_over g.row.I.Denot g.I.Index.contents g.I.Index.fits c.unlink.new.self c.self.inside.deferred c.unlink.new.arena) i)
unlinked g c = removed-step g.row.I.Denot g.I.Index.contents g.I.Index.fits g.met.I.Index.frame c.self.inside.index
    c.unlink.new.self c.self.inside.deferred c.self.inside.arena c.unlink.new.arena c.args.key.now c.unlink.result
    c.self.invariant (sym c.unlink.ensures.slot) c.unlink.ensures.contents c.unlink.ensures.fits
    c.unlink.ensures.links

-- the parts once it was retired
retired : (g : Over) (c : After-retire g) → Become g.row.I.Denot g.I.Index.contents g.I.Index.fits c.unlink.new.self
    c.retire.new.self c.retire.new.arena (record {
      index = g.I.Index.contents c.unlink.new.self c.unlink.new.arena;
      lists = retired_lists (deferred_lists c.self.inside.deferred c.unlink.new.arena) c.in-Some.slot;
      arena = c.retire.new.arena;
    })
retired g c =
    let p = unlinked g (goal.at.After-retire g c).After-unlink in
    retired-step g.row.I.Denot g.I.Index.contents g.I.Index.fits g.met.I.Index.frame c.unlink.new.self
    c.self.inside.deferred c.retire.new.self c.unlink.new.arena c.retire.new.arena c.in-Some.slot p.0.0
    (p.1 c.in-Some.slot c.in-Some.is) c.retire.ensures.lists c.retire.ensures.fits c.retire.ensures.links

pub invariant_of-self : goal.invariant_of-self
invariant_of-self g c = (unlinked g (goal.at.invariant_of-self g c).After-unlink).0.0

pub retire-requires-clause-fits : goal.retire-requires-clause-fits
retire-requires-clause-fits g c = (unlinked g (goal.at.retire-requires-clause-fits g c).After-unlink).0.0.0.1

pub retire-requires-clause-taken : goal.retire-requires-clause-taken
retire-requires-clause-taken g c = ((unlinked g (goal.at.retire-requires-clause-taken g c).After-unlink).1 c.in-Some.slot c.in-Some.is).taken

pub retire-requires-clause-apart : goal.retire-requires-clause-apart
retire-requires-clause-apart g c = ((unlinked g (goal.at.retire-requires-clause-apart g c).After-unlink).1 c.in-Some.slot c.in-Some.is).unlisted

pub invariant_of-self-in-Some : goal.invariant_of-self-in-Some
invariant_of-self-in-Some g c = (retired g (goal.at.invariant_of-self-in-Some g c).After-retire).0

pub returns-in-None-clause-new : goal.returns-in-None-clause-new
returns-in-None-clause-new g c =
    (unlinked g (goal.at.returns-in-None-clause-new g c).After-unlink).0.1
    ∙ (ap (λ (m : KeyMap). let r : PartsView = record {
      index = m;
      lists =
          deferred_lists c.self.inside.deferred c.self.inside.arena;
      arena = c.unlink.new.arena;
    } in r)
    (remove_absent (g.I.Index.contents c.self.inside.index c.self.inside.arena) c.args.key.now
    (sym c.unlink.ensures.slot ∙ c.in-None.is))
    ∙ (ap (λ (z : ArenaState). let r : PartsView = record {
      index =
          g.I.Index.contents c.self.inside.index c.self.inside.arena;
      lists =
          deferred_lists c.self.inside.deferred c.self.inside.arena;
      arena = z;
    } in r) c.unlink.ensures.links.rest
    ∙ ap (λ (p : PartsView). unlinked_of p c.args.key.now None c.unlink.new.arena.links) c.self.view_is))

pub returns-in-Some-clause-new : goal.returns-in-Some-clause-new
returns-in-Some-clause-new g c =
    let p = unlinked g (goal.at.returns-in-Some-clause-new g c).After-unlink in
    (retired g (goal.at.returns-in-Some-clause-new g c).After-retire).1
    ∙ (ap (λ (p : PartsView). let r : PartsView = record {
      index = p.index;
      lists =
          retired_lists p.lists c.in-Some.slot;
      arena = c.retire.new.arena;
    } in r) p.0.1
    ∙ (ap (λ (z : ArenaState). let r : PartsView = record {
      index =
          map.remove (g.I.Index.contents c.self.inside.index c.self.inside.arena) c.args.key.now;
      lists =
          retired_lists (deferred_lists c.self.inside.deferred c.self.inside.arena) c.in-Some.slot;
      arena = z;
    } in r)
    (links-on c.self.inside.arena c.unlink.new.arena c.retire.new.arena c.unlink.ensures.links.rest
    c.retire.ensures.links.rest)
    ∙ ap (λ (p : PartsView). unlinked_of p c.args.key.now (Some c.in-Some.slot) c.retire.new.arena.links) c.self.view_is))
