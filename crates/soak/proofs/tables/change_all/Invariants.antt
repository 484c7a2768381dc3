use Rattle.bpf_model.proofs.Prelude.{◌≡◌}
use Rattle.soak.proofs.tables.change_all.Given as goal

abbrev pub invariant-loop-key : goal.invariant-loop-key
invariant-loop-key l = l.writer.table ≡ l.table
