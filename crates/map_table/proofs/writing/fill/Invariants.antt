use Rattle.table_words.proofs.Prelude.{◌≡◌, ◌+◌, ◌<◌, ◌++◌, ℕ, List, slice_index, word_at, IsSpare}
use Rattle.map_table.proofs.Prelude.{Move, Went, Fills}
use Rattle.map_table.proofs.writing.fill.Given as goal

abbrev pub invariant-loop-place : goal.invariant-loop-place
invariant-loop-place l = (l.seat.table_id ≡ l.fn.seat.table_id) × (l.seat.me.1 ≡ l.fn.seat.me.1) ×
    ((ms : List Move) × Fills l.element l.from l.words l.place ms × Went l.fn.seat.me.0 (ms ++ l.fn.seat.me.0.mine) l.seat.me.0) ×
    IsSpare l.table.shape.readers l.element l.seat.me.0.mine ×
    ((p : ℕ) → p < l.place → word_at l.element (l.from + p) l.seat.me.0.seen ≡ slice_index l.words p) ×
    ((p : ℕ) → p < l.from → word_at l.element p l.seat.me.0.seen ≡ word_at l.element p l.fn.seat.me.0.seen)
