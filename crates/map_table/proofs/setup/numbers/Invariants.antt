use Rattle.table_words.proofs.Prelude.{◌≡◌, ◌≤◌, vec_len, vec_capacity, range_with_len}
use Rattle.map_table.proofs.setup.numbers.Given as goal

abbrev pub invariant-loop-i : goal.invariant-loop-i
invariant-loop-i l = (vec_len l.v ≡ l.i) × (l.count ≤ vec_capacity l.v) × (l.v.items ≡ range_with_len 0 l.i)
