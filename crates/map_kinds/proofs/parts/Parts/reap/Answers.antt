use Rattle.bpf_model.proofs.Prelude.{◌≡◌, ◌∙◌, ℕ, Option, Some, None, sym, ap, subst, slice_get, IfSome}
use Rattle.element_store.proofs.Prelude.{ArenaState, reaped_lists, deferred_lists}
use Rattle.map_kinds.specs.Parted.{PartsView, IsParted, IsInHand}
use Rattle.map_kinds.proofs.Becoming.{Become}
use Rattle.map_kinds.proofs.Parting.{reaped-held}
use Rattle.map_kinds.proofs.Moves.{reaped-step, held-links}
use Rattle.map_kinds.proofs.parts.Parts.reap.Given.{Over}
use Rattle.map_kinds.proofs.parts.Parts.reap.Goals.{After-reap}
use Rattle.map_kinds.proofs.parts.Parts.reap.Goals as goal

-- the parts once the first of the ready slots left
reaped : (g : Over) (c : After-reap g) → Become g.row.I.Denot g.I.Index.contents g.I.Index.fits c.self.inside.index
    c.reap.new.self c.reap.new.arena (record {
      index = g.I.Index.contents c.self.inside.index c.self.inside.arena;
      lists = reaped_lists (deferred_lists c.self.inside.deferred c.self.inside.arena);
      arena = c.reap.new.arena;
    })
reaped g c = reaped-step g.row.I.Denot g.I.Index.contents g.I.Index.fits g.met.I.Index.frame
    c.self.inside.index c.self.inside.deferred c.reap.new.self c.self.inside.arena c.reap.new.arena c.self.invariant
    c.reap.ensures.lists c.reap.ensures.fits c.reap.ensures.links

pub invariant_of-self : goal.invariant_of-self
invariant_of-self g c = (reaped g (goal.at.invariant_of-self g c).After-reap).0

pub returns-clause-first : goal.returns-clause-first
returns-clause-first g c = c.reap.ensures.first ∙ ap (λ (p : PartsView). slice_get p.lists.ready 0) c.self.view_is

pub returns-clause-new : goal.returns-clause-new
returns-clause-new g c =
    (reaped g (goal.at.returns-clause-new g c).After-reap).1
    ∙ (ap (λ (z : ArenaState). let r : PartsView = record {
      index =
          g.I.Index.contents c.self.inside.index c.self.inside.arena;
      lists =
          reaped_lists (deferred_lists c.self.inside.deferred c.self.inside.arena);
      arena = z;
    } in r)
    c.reap.ensures.links.rest
    ∙ ap (λ (p : PartsView). let r : PartsView = record {
      index = p.index;
      lists = reaped_lists p.lists;
      arena =
          record p.arena { links = c.reap.new.arena.links };
    } in r) c.self.view_is)

held : (o : Option ℕ) (p r : PartsView) (b : ArenaState) → IsParted p → o ≡ slice_get p.lists.ready 0 →
    b ≡ record p.arena { links = b.links } → r ≡ record { index = p.index; lists = reaped_lists p.lists; arena = b } →
    IfSome o (IsInHand r)
held None p r b h e l s = tt
held (Some i) p r b h e l s = subst (λ z. IsInHand z i) (sym s) (held-links p.index (reaped_lists p.lists) p.arena b i l (reaped-held p i h (sym e)))

pub returns-clause-held : goal.returns-clause-held
returns-clause-held g c =
    held c.reap.result (record {
      index = g.I.Index.contents c.self.inside.index c.self.inside.arena;
      lists =
          deferred_lists c.self.inside.deferred c.self.inside.arena;
      arena = c.self.inside.arena;
    }) _ c.reap.new.arena
    c.self.invariant.1 c.reap.ensures.first c.reap.ensures.links.rest (reaped g (goal.at.returns-clause-held g c).After-reap).1

pub returns-clause-parted : goal.returns-clause-parted
returns-clause-parted g c = (reaped g (goal.at.returns-clause-parted g c).After-reap).0.1
