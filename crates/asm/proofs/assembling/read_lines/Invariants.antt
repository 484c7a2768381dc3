use Rattle.bpf_model.proofs.Prelude.{length}
use Rattle.asm.proofs.LinesRead.{IsReading}
use Rattle.asm.proofs.assembling.read_lines.Given as goal

abbrev pub invariant-loop-line : goal.invariant-loop-line
invariant-loop-line l = IsReading l.text l.rest l.instructions.items l.index

abbrev pub decreases-loop-line : goal.decreases-loop-line
decreases-loop-line l = length l.rest
