use Rattle.run_once.specs.Once.{AreDone}
use Rattle.run_once.proofs.once.first_not_done.Given as goal

abbrev pub invariant-loop-number : goal.invariant-loop-number
invariant-loop-number l = AreDone l.number l.answers
