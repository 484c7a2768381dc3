use Rattle.bpf_model.proofs.Prelude.{All}
use Rattle.map_table.proofs.Prelude.{IsReady}
use Rattle.soak.specs.Tables.{IsReadyWatcher}
use Rattle.soak.proofs.tables.watchers_of.Given as goal

abbrev pub invariant-loop-seat : goal.invariant-loop-seat
invariant-loop-seat l = All (IsReady l.here) l.seat-iterator.rest.items × All (IsReadyWatcher l.here) l.watchers.items
