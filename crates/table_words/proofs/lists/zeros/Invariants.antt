use Rattle.table_words.proofs.Prelude.{◌≡◌, ℕ, ◌≤◌, vec_len, vec_capacity}
use Rattle.std.proofs.Common.{slice_index_or}
use Rattle.table_words.proofs.lists.zeros.Given as goal

abbrev pub invariant-loop : goal.invariant-loop
invariant-loop l = (vec_len l.v ≡ l.counter) × (l.count ≤ vec_capacity l.v) × ((j : ℕ) → slice_index_or l.v.items j 0 ≡ 0)
