use Rattle.bpf_model.proofs.Prelude.{take}
use Rattle.classic_program.proofs.Prelude.{Lacks}
use Rattle.classic_program.proofs.reading.cut.Given as goal

abbrev pub invariant-loop-index : goal.invariant-loop-index
invariant-loop-index l = Lacks l.separator (take l.index l.bytes)
