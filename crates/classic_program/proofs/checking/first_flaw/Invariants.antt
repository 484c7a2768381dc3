use Rattle.bpf_model.proofs.Prelude.{◌≡◌, ℕ, ◌<◌, length, Some, slice_get}
use Rattle.classic_program.proofs.Prelude.{IsSoundAt}
use Rattle.classic_program.specs.declared.insn.ClassicInsn.{ClassicInsn}
use Rattle.classic_program.proofs.checking.first_flaw.Given as goal

abbrev pub invariant-loop-index : goal.invariant-loop-index
invariant-loop-index l =
    (k : ℕ) (i : ClassicInsn) → k < l.index → slice_get l.program k ≡ Some i → IsSoundAt l.kind (length l.program) k i
