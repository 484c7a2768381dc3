use Rattle.bpf_model.proofs.Prelude.{◌≡◌}
use Rattle.element_store.proofs.Prelude.{fresh_cells}
use Rattle.element_store.proofs.make.fresh_cells.Given as goal

abbrev pub invariant-loop-slot : goal.invariant-loop-slot
invariant-loop-slot l = l.cells.items ≡ fresh_cells l.slots l.slot
