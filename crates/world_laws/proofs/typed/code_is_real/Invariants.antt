use Rattle.bpf_model.proofs.Prelude.{◌≡◌, ℕ, ◌<◌, slice_get, Some, FitsInsn}
use Rattle.model_laws.proofs.Prelude.{Insn}
use Rattle.world_laws.proofs.typed.code_is_real.Given as goal

abbrev pub invariant-loop-insn : goal.invariant-loop-insn
invariant-loop-insn l = (k : ℕ) (i : Insn) → k < l.insn-index → slice_get l.code k ≡ Some i → FitsInsn i
