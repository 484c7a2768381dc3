use Rattle.bpf_model.proofs.Prelude.{◌≡◌, take, slot_total, starts_from}
use Rattle.insn_codec.proofs.program.starts_of.Given as goal

abbrev pub invariant-loop-instruction : goal.invariant-loop-instruction
invariant-loop-instruction l = (l.starts.items ≡ starts_from 0 (take l.instruction-index l.instructions)) ×
    (l.slots ≡ slot_total (take l.instruction-index l.instructions))
