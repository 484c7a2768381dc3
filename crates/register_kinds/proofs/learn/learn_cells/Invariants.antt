use Rattle.bpf_model.proofs.Prelude.{◌≡◌, ℕ, ◌/◌, ◌<◌, ◌≤◌}
use Rattle.register_kinds.proofs.Prelude.{kind_in, class_in, learnt_class}
use Rattle.register_kinds.proofs.learn.learn_cells.Given as goal

abbrev pub invariant-loop-i : goal.invariant-loop-i
invariant-loop-i l = record {
  done : (k : ℕ) → k < l.i → class_in l.cells k ≡ learnt_class l.lesson (kind_in l.spills (k / 8)) (class_in l.fn.cells k);
  rest : (k : ℕ) → l.i ≤ k → class_in l.cells k ≡ class_in l.fn.cells k;
}
