use Rattle.bpf_model.proofs.Prelude.{◌≡◌, ℕ, ◌<◌, Some, true, slice_get}
use Rattle.classic_program.proofs.Prelude.{reads_from}
use Rattle.classic_program.specs.declared.insn.ClassicInsn.{ClassicInsn}
use Rattle.classic_program.proofs.checking.marked_reader.Given as goal

abbrev pub invariant-loop-index : goal.invariant-loop-index
invariant-loop-index l =
    (k : ℕ) (i : ClassicInsn) → k < l.index → slice_get l.program k ≡ Some i → reads_from l.number i ≡ true → slice_get l.marks k ≡ Some true → ⊥
