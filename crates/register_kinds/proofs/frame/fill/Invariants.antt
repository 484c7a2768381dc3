use Rattle.bpf_model.proofs.Prelude.{◌≡◌, ℕ, ◌-◌, if◌then◌else◌, is_within}
use Rattle.register_kinds.proofs.Prelude.{class_in}
use Rattle.register_kinds.proofs.frame.fill.Given as goal

abbrev pub invariant-loop-i : goal.invariant-loop-i
invariant-loop-i l = (k : ℕ) → class_in l.cells k ≡ (if is_within l.at (l.i - l.at) k then l.cell else class_in l.fn.cells k)
