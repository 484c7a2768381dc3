use Rattle.classic.proofs.Sequence.{IsLaying}
use Rattle.classic.proofs.layout.starts_of.Given as goal

abbrev pub invariant-loop-index : goal.invariant-loop-index
invariant-loop-index l = IsLaying l.kind l.instructions l.notes l.first l.starts.items l.index l.slot
