use Rattle.read_table.proofs.Prelude.{IsReady}
use Rattle.table_tests.proofs.threads.count_right.Given as goal

abbrev pub invariant-loop : goal.invariant-loop
invariant-loop l = IsReady l.table l.seat
