use Rattle.read_table.proofs.Prelude.{IsReady}
use Rattle.table_tests.proofs.slots.count_found.Given as goal

abbrev pub invariant-loop-number : goal.invariant-loop-number
invariant-loop-number l = IsReady l.table l.seat
