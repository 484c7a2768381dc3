use Rattle.bpf_model.proofs.Prelude.{◌≡◌}
use Rattle.table_words.proofs.Prelude.{inside}
use Rattle.map_table.proofs.Prelude.{IsKnown}
use Rattle.table_tests.proofs.walks.walk.Given as goal

abbrev pub invariant-loop-way : goal.invariant-loop-way
invariant-loop-way l = (l.seat.table ≡ l.table) × (inside l.seat.view.mine ≡ 1) × IsKnown l.seat.view
