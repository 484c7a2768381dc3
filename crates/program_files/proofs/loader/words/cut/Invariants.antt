use Rattle.bpf_model.proofs.Prelude.{take}
use Rattle.program_files.specs.Stages.{HasNoByte}
use Rattle.program_files.proofs.loader.words.cut.Given as goal

abbrev pub invariant-loop-index : goal.invariant-loop-index
invariant-loop-index l = HasNoByte l.at (take l.index l.bytes)
