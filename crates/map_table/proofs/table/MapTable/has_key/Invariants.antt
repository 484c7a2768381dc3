use Rattle.table_words.proofs.Prelude.{ℕ, ◌<◌, ◌≤◌, List, length, slice_index, OnlySearches, HadWord}
use Rattle.map_table.proofs.Prelude.{Move, layout_of, Goes}
use Rattle.map_table.proofs.table.MapTable.has_key.Given as goal

abbrev pub invariant-loop-place : goal.invariant-loop-place
invariant-loop-place l = (ms : List Move) × Goes l.fn.seat ms l.seat × OnlySearches (layout_of l.self.shape) 0 ms ×
    ((p : ℕ) → p < l.place → HadWord l.element p (slice_index l.key p) ms) × (length ms ≤ l.place)
