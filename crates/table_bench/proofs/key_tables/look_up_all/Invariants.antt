use Rattle.map_table.proofs.Prelude.{IsReady}
use Rattle.table_bench.proofs.key_tables.look_up_all.Given as goal

abbrev pub invariant-loop-turn : goal.invariant-loop-turn
invariant-loop-turn l = IsReady l.table l.seat
