use Rattle.map_table.proofs.Prelude.{IsReady}
use Rattle.table_tests.proofs.added.add_often.Given as goal

abbrev pub invariant-loop : goal.invariant-loop
invariant-loop l = IsReady l.table l.seat
