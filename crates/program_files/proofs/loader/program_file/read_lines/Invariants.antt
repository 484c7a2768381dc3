use Rattle.bpf_model.proofs.Prelude.{length}
use Rattle.program_files.proofs.Texts.{IsReadTo}
use Rattle.program_files.proofs.loader.program_file.read_lines.Given as goal

abbrev pub invariant-loop-rest : goal.invariant-loop-rest
invariant-loop-rest l = IsReadTo l.text l.rest l.loading l.number

abbrev pub decreases-loop-rest : goal.decreases-loop-rest
decreases-loop-rest l = length l.rest
