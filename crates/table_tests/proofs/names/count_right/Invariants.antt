use Rattle.map_table.proofs.Prelude.{IsReady}
use Rattle.table_tests.proofs.names.count_right.Given as goal

abbrev pub invariant-loop-row : goal.invariant-loop-row
invariant-loop-row l = IsReady l.table l.seat
