use Rattle.bpf_model.proofs.Prelude.{◌≡◌, ℕ, ◌<◌, Some, false, slice_get}
use Rattle.classic_program.proofs.Prelude.{reads_from}
use Rattle.classic_program.specs.declared.insn.ClassicInsn.{ClassicInsn}
use Rattle.classic_program.proofs.checking.reads_no_memory.Given as goal

abbrev pub invariant-loop-index : goal.invariant-loop-index
invariant-loop-index l =
    (k : ℕ) (i : ClassicInsn) (w : ℕ) → k < l.index → slice_get l.program k ≡ Some i → reads_from w i ≡ false
