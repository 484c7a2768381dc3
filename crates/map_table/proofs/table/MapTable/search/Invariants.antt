use Rattle.table_words.proofs.Prelude.{ℕ, ◌+◌, ◌*◌, ◌<◌, ◌≤◌, List, length, OnlySearches, Refuted}
use Rattle.map_table.proofs.Prelude.{Move, layout_of, Goes}
use Rattle.map_table.proofs.table.MapTable.search.Given as goal

abbrev pub invariant-loop-at : goal.invariant-loop-at
invariant-loop-at l = (ms : List Move) × Goes l.fn.seat ms l.seat × OnlySearches (layout_of l.self.shape) 0 ms ×
    ((way : ℕ) → l.first ≤ way → way < l.first + l.at → Refuted (layout_of l.self.shape) 0 l.key way ms) ×
    (length ms ≤ l.at * (1 + l.self.shape.key_words))
