use Rattle.map_table.proofs.Prelude.{IsReady}
use Rattle.table_bench.proofs.map_stage.run_all.Given as goal

abbrev pub invariant-loop : goal.invariant-loop
invariant-loop l = IsReady l.table l.seat
