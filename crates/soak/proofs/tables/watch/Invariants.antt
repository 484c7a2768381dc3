use Rattle.map_table.proofs.Prelude.{IsReady}
use Rattle.soak.proofs.tables.watch.Given as goal

abbrev pub invariant-loop : goal.invariant-loop
invariant-loop l = IsReady l.table l.watcher.seat
