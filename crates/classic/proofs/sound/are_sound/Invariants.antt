use Rattle.classic.proofs.Closing.{IsSoundUpTo}
use Rattle.classic.proofs.sound.are_sound.Given as goal

abbrev pub invariant-loop-index : goal.invariant-loop-index
invariant-loop-index l = IsSoundUpTo l.kind l.instructions l.notes l.index
