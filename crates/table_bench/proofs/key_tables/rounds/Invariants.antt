use Rattle.bpf_model.proofs.Prelude.{◌≡◌}
use Rattle.map_table.proofs.Prelude.{IsReady}
use Rattle.table_bench.proofs.key_tables.rounds.Given as goal

abbrev pub invariant-loop : goal.invariant-loop
invariant-loop l = IsReady l.table l.seat × (l.writer.table ≡ l.table)
