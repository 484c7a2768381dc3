use Rattle.bpf_model.proofs.Prelude.{◌∙◌, ap, turned}
use Rattle.element_store.proofs.Prelude.{ArenaState, deferred_lists}
use Rattle.map_kinds.specs.Parted.{PartsView}
use Rattle.map_kinds.proofs.Moves.{turned-step}
use Rattle.map_kinds.proofs.parts.Parts.advance.Goals as goal

pub invariant_of-self : goal.invariant_of-self
invariant_of-self g c = (turned-step g.row.I.Denot g.I.Index.contents g.I.Index.fits g.met.I.Index.frame
    c.self.inside.index c.self.inside.deferred c.advance.new.self c.self.inside.arena c.advance.new.arena
    c.self.invariant c.advance.ensures.lists c.advance.ensures.fits c.advance.ensures.links).0

pub returns : goal.returns
returns g c =
    let s = turned-step g.row.I.Denot g.I.Index.contents g.I.Index.fits g.met.I.Index.frame c.self.inside.index
    c.self.inside.deferred c.advance.new.self c.self.inside.arena c.advance.new.arena c.self.invariant
    c.advance.ensures.lists c.advance.ensures.fits c.advance.ensures.links in
    s.1
    ∙ (ap (λ (z : ArenaState). let r : PartsView = record {
      index =
          g.I.Index.contents c.self.inside.index c.self.inside.arena;
      lists =
          turned (deferred_lists c.self.inside.deferred c.self.inside.arena);
      arena = z;
    } in r)
    c.advance.ensures.links.rest
    ∙ ap (λ (p : PartsView). let r : PartsView = record {
      index = p.index;
      lists = turned p.lists;
      arena =
          record p.arena { links = c.advance.new.arena.links };
    } in r) c.self.view_is)
