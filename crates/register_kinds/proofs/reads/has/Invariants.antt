use Rattle.bpf_model.proofs.Prelude.{◌≡◌, ℕ, ◌<◌, ◌≤◌}
use Rattle.register_kinds.proofs.Prelude.{class_in}
use Rattle.register_kinds.proofs.reads.has.Given as goal

abbrev pub invariant-loop-i : goal.invariant-loop-i
invariant-loop-i l = (k : ℕ) → l.at ≤ k → k < l.i → class_in l.cells k ≡ l.class → ⊥
