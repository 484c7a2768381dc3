use Rattle.bpf_model.proofs.Prelude.{◌≡◌, ℕ, ◌<◌, ◌≤◌, IsTrue}
use Rattle.register_kinds.proofs.Prelude.{class_in}
use Rattle.std.specs.Prelude.{IsFalse}
use Rattle.register_kinds.proofs.reads.are_all.Given as goal

abbrev pub invariant-loop-i : goal.invariant-loop-i
invariant-loop-i l = record {
  all : IsTrue l.all → (k : ℕ) → l.at ≤ k → k < l.i → class_in l.cells k ≡ l.class;
  other : IsFalse l.all → ((k : ℕ) → l.at ≤ k → k < l.i → class_in l.cells k ≡ l.class) → ⊥;
}
