use Rattle.table_words.proofs.Prelude.{◌≡◌, ◌++◌, vec_capacity, take}
use Rattle.table_words.proofs.lists.move_first.Given as goal

abbrev pub invariant-loop-at : goal.invariant-loop-at
invariant-loop-at l = (l.to.items ≡ l.fn.to.items ++ take l.at l.fn.from.items) × (vec_capacity l.to ≡ vec_capacity l.fn.to)
