use Rattle.read_table.proofs.Prelude.{IsReady}
use Rattle.table_tests.proofs.read_table_runs.all_come_so.Given as goal

abbrev pub invariant-loop-row : goal.invariant-loop-row
invariant-loop-row l = IsReady l.table l.seat
