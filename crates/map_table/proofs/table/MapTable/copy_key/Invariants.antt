use Rattle.table_words.proofs.Prelude.{◌≡◌, List, length, OnlySearches}
use Rattle.map_table.proofs.Prelude.{Move, layout_of, Goes, Reads}
use Rattle.map_table.proofs.table.MapTable.copy_key.Given as goal

abbrev pub invariant-loop-place : goal.invariant-loop-place
invariant-loop-place l = (ms : List Move) × Goes l.fn.seat ms l.seat × OnlySearches (layout_of l.self.shape) 0 ms ×
    Reads l.element 0 l.key l.place ms × (length l.key ≡ length l.fn.key)
