use Rattle.map_table.proofs.Prelude.{IsReady}
use Rattle.table_tests.proofs.map_table_runs.load_each.Given as goal

abbrev pub invariant-loop-row : goal.invariant-loop-row
invariant-loop-row g l = IsReady l.table l.seat
