use Rattle.bpf_model.proofs.Prelude.{◌≡◌, Contains}
use Rattle.table_tests.proofs.threads.reclaim.Given as goal

abbrev pub invariant-loop : goal.invariant-loop
invariant-loop l = (l.writer.table ≡ l.table) × Contains l.writer.unlinked l.slot
