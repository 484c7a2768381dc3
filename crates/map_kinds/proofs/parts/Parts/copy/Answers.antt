use Rattle.bpf_model.proofs.Prelude.{sym, subst, KeyMap}
use Rattle.element_store.proofs.Prelude.{DeferredFits, deferred_lists, ArenaState}
use Rattle.element_store.specs.declared.deferred.DeferredSlots.{DeferredSlots}
use Rattle.map_kinds.specs.Parted.{IsParted}
use Rattle.map_kinds.proofs.parts.Parts.copy.Goals as goal

pub invariant_of-result : goal.invariant_of-result
invariant_of-result g c =
    let i = c.in_ok-index.ensures.same c.self.inside.arena c.self.invariant.0.0 in
    let p = subst (λ (m : KeyMap). IsParted (record {
      index = m;
      lists =
          deferred_lists c.self.inside.deferred c.self.inside.arena;
      arena = c.self.inside.arena;
    })) (sym i.1)
    c.self.invariant.1 in
    subst (λ (a : ArenaState). (g.I.Index.fits c.in_ok-index.index a × DeferredFits c.copy-3.result a) ×
    IsParted (record {
      index = g.I.Index.contents c.in_ok-index.index a;
      lists = deferred_lists c.copy-3.result a;
      arena = a;
    })) (sym c.in_ok-arena.ensures)
    (subst (λ (y : DeferredSlots). (g.I.Index.fits c.in_ok-index.index c.self.inside.arena ×
    DeferredFits y c.self.inside.arena) × IsParted
    (record {
      index = g.I.Index.contents c.in_ok-index.index c.self.inside.arena;
      lists =
          deferred_lists y c.self.inside.arena;
      arena = c.self.inside.arena;
    })) (sym c.copy-3.ensures)
    ((i.0, c.self.invariant.0.1), p))
