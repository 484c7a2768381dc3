use Rattle.bpf_model.proofs.Prelude.{◌≡◌}
use Rattle.map_table.proofs.Prelude.{IsReady}
use Rattle.table_tests.proofs.room.count_found.Given as goal

abbrev pub invariant-loop-number : goal.invariant-loop-number
invariant-loop-number l = IsReady l.table l.seat × (l.writer.table ≡ l.table)
