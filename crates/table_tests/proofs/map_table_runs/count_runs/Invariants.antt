use Rattle.map_table.proofs.Prelude.{IsReady}
use Rattle.table_tests.proofs.map_table_runs.count_runs.Given as goal

abbrev pub invariant-loop-key : goal.invariant-loop-key
invariant-loop-key l = IsReady l.table l.seat
