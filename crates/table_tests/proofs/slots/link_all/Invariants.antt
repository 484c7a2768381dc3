use Rattle.bpf_model.proofs.Prelude.{◌≡◌}
use Rattle.table_tests.proofs.slots.link_all.Given as goal

abbrev pub invariant-loop-number : goal.invariant-loop-number
invariant-loop-number l = l.writer.table ≡ l.table
