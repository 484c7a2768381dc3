use Rattle.table_words.proofs.Prelude.{◌≡◌, ◌++◌, List, length}
use Rattle.map_table.proofs.Prelude.{Move, Went, OnlyLoads, Reads}
use Rattle.map_table.proofs.reading.load_values.Given as goal

abbrev pub invariant-loop-place : goal.invariant-loop-place
invariant-loop-place l = (l.seat.table_id ≡ l.fn.seat.table_id) × (l.seat.me.1 ≡ l.fn.seat.me.1) ×
    ((ms : List Move) × OnlyLoads ms × Reads l.element l.table.shape.key_words l.words l.place ms ×
    Went l.fn.seat.me.0 (ms ++ l.fn.seat.me.0.mine) l.seat.me.0) × (length l.words ≡ length l.fn.words)
