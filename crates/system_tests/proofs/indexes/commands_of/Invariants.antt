use Rattle.system_tests.specs.declared.indexes.TheConstants.{MANY}
use Rattle.system_tests.specs.Stock.{AreLinkable}
use Rattle.system_tests.proofs.indexes.commands_of.Given as goal

abbrev pub invariant-loop-number : goal.invariant-loop-number
invariant-loop-number l = AreLinkable MANY l.all.items
