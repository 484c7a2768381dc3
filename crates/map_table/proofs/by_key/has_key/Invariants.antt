use Rattle.table_words.proofs.Prelude.{◌≡◌, ℕ, ◌<◌, ◌++◌, List, slice_index, word_at, OnlySearches}
use Rattle.map_table.proofs.Prelude.{Move, layout_of, Went}
use Rattle.map_table.proofs.by_key.has_key.Given as goal

abbrev pub invariant-loop-place : goal.invariant-loop-place
invariant-loop-place l = (l.seat.table_id ≡ l.fn.seat.table_id) × (l.seat.me.1 ≡ l.fn.seat.me.1) ×
    ((ms : List Move) × OnlySearches (layout_of l.table.shape) 0 ms × Went l.fn.seat.me.0 (ms ++ l.fn.seat.me.0.mine) l.seat.me.0) ×
    ((p : ℕ) → p < l.place → slice_index l.key p ≡ word_at l.element p l.seat.me.0.seen)
