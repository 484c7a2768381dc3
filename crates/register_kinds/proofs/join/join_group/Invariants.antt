use Rattle.bpf_model.proofs.Prelude.{◌≡◌, ℕ, ◌<◌, ◌≤◌}
use Rattle.register_kinds.proofs.Prelude.{class_in, is_pointer, joined_class}
use Rattle.register_kinds.proofs.join.join_group.Given as goal

abbrev pub invariant-loop-i : goal.invariant-loop-i
invariant-loop-i l = record {
  done : (k : ℕ) → k < l.i → l.at ≤ k → class_in l.cells k ≡ joined_class (class_in l.fn.cells k) (class_in l.others k) (is_pointer l.spill);
  before : (k : ℕ) → k < l.at → class_in l.cells k ≡ class_in l.fn.cells k;
  rest : (k : ℕ) → l.i ≤ k → class_in l.cells k ≡ class_in l.fn.cells k;
}
