use Rattle.system_tests.specs.declared.indexes.TheConstants.{MANY}
use Rattle.system_tests.specs.Stock.{IsFilled}
use Rattle.system_tests.proofs.indexes.stocked.Given as goal

abbrev pub invariant-loop-count : goal.invariant-loop-count
invariant-loop-count l = IsFilled MANY l.count l.arena
