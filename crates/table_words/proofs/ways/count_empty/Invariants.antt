use Rattle.table_words.proofs.Prelude.{◌≤◌}
use Rattle.table_words.proofs.ways.count_empty.Given as goal

abbrev pub invariant-loop-at : goal.invariant-loop-at
invariant-loop-at l = l.count ≤ l.at
