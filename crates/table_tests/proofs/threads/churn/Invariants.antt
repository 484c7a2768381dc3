use Rattle.bpf_model.proofs.Prelude.{◌≡◌}
use Rattle.table_tests.proofs.threads.churn.Given as goal

abbrev pub invariant-loop-round : goal.invariant-loop-round
invariant-loop-round l = l.writer.table ≡ l.table
