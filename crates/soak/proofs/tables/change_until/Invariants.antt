use Rattle.bpf_model.proofs.Prelude.{◌≡◌}
use Rattle.soak.proofs.tables.change_until.Given as goal

abbrev pub invariant-loop-turn : goal.invariant-loop-turn
invariant-loop-turn l = l.writer.table ≡ l.table
