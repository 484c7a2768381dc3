use Rattle.bpf_model.proofs.Prelude.{◌≡◌, ℕ, ◌*◌, ◌/◌, ◌<◌, ◌≤◌}
use Rattle.register_kinds.proofs.Prelude.{kind_in, class_in, is_pointer, joined_class}
use Rattle.register_kinds.proofs.join.join_cells.Given as goal

abbrev pub invariant-loop-g : goal.invariant-loop-g
invariant-loop-g l = record {
  done : (k : ℕ) → k < 8 * l.g → class_in l.cells k ≡ joined_class (class_in l.fn.cells k) (class_in l.others k) (is_pointer (kind_in l.spills (k / 8)));
  rest : (k : ℕ) → 8 * l.g ≤ k → class_in l.cells k ≡ class_in l.fn.cells k;
}
