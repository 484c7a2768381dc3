use Rattle.bpf_model.proofs.Prelude.{◌≡◌, ℕ, ◌<◌, ◌≤◌, IsTrue}
use Rattle.register_kinds.proofs.Prelude.{class_in, joined_class}
use Rattle.register_kinds.proofs.join.are_kept.Given as goal

abbrev pub invariant-loop-i : goal.invariant-loop-i
invariant-loop-i l = IsTrue l.all → (k : ℕ) → k < l.i → l.at ≤ k → joined_class (class_in l.cells k) (class_in l.others k) l.kept ≡ class_in l.cells k
