use Rattle.table_words.proofs.Prelude.{◌≡◌, ℕ, ◌+◌, ◌<◌, ◌≤◌, ◌++◌, List, OnlySearches, IsLinkedUnder}
use Rattle.map_table.proofs.Prelude.{Move, layout_of, Went}
use Rattle.map_table.proofs.by_key.find_in.Given as goal

abbrev pub invariant-loop-at : goal.invariant-loop-at
invariant-loop-at l = (l.seat.table_id ≡ l.fn.seat.table_id) × (l.seat.me.1 ≡ l.fn.seat.me.1) ×
    ((ms : List Move) × OnlySearches (layout_of l.table.shape) 0 ms × Went l.fn.seat.me.0 (ms ++ l.fn.seat.me.0.mine) l.seat.me.0) ×
    ((way : ℕ) → l.first ≤ way → way < l.first + l.at → IsLinkedUnder (layout_of l.table.shape) 0 l.key way l.seat.me.0.seen → ⊥)
