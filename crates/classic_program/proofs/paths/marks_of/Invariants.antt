use Rattle.classic_program.proofs.Prelude.{stops_at}
use Rattle.classic_program.proofs.Marking.{IsMarking}
use Rattle.classic_program.proofs.paths.marks_of.Given as goal

abbrev pub invariant-loop-index : goal.invariant-loop-index
invariant-loop-index l = IsMarking l.instructions (stops_at l.word) l.marks.items l.index
