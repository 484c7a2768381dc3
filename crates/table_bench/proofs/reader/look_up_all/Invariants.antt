use Rattle.read_table.proofs.Prelude.{IsReady}
use Rattle.table_bench.proofs.reader.look_up_all.Given as goal

abbrev pub invariant-loop-turn : goal.invariant-loop-turn
invariant-loop-turn l = IsReady l.table l.seat
