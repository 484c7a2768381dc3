use Rattle.bpf_model.proofs.Prelude.{◌≡◌, ℕ, ◌<◌, Some, true, slice_get}
use Rattle.classic_program.proofs.Prelude.{reads_from, stores_to, Reaches}
use Rattle.classic_program.specs.declared.insn.ClassicInsn.{ClassicInsn}
use Rattle.classic_program.proofs.checking.check_memory.Given as goal

abbrev pub invariant-loop-number : goal.invariant-loop-number
invariant-loop-number l =
    (w k : ℕ) (i : ClassicInsn) → w < l.number → slice_get l.program k ≡ Some i → reads_from w i ≡ true → Reaches l.program (stores_to w) k → ⊥
