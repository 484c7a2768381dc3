use Rattle.table_words.proofs.Prelude.{◌≢◌, ◌+◌, ◌<◌, ◌≤◌, ℕ, slice_index}
use Rattle.table_words.proofs.ways.empty_way.Given as goal

abbrev pub invariant-loop-at : goal.invariant-loop-at
invariant-loop-at l = (way : ℕ) → l.first ≤ way → way < l.first + l.at → slice_index l.ways way ≢ 0
