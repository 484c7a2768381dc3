use Rattle.bpf_model.proofs.Prelude.{◌≡◌}
use Rattle.table_tests.proofs.map_table_runs.link_all.Given as goal

abbrev pub invariant-loop-key : goal.invariant-loop-key
invariant-loop-key l = l.writer.table ≡ l.table
