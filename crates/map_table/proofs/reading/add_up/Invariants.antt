use Rattle.table_words.proofs.Prelude.{◌≡◌, ◌+◌, ◌++◌, List}
use Rattle.map_table.proofs.Prelude.{Move, AddsUp, Went}
use Rattle.map_table.proofs.reading.add_up.Given as goal

abbrev pub invariant-loop-copy : goal.invariant-loop-copy
invariant-loop-copy l = (l.seat.table_id ≡ l.fn.seat.table_id) × (l.seat.me.1 ≡ l.fn.seat.me.1) ×
    ((ms : List Move) × AddsUp l.element (l.table.shape.key_words + l.place) l.table.shape.value_words l.copy ms l.total ×
    Went l.fn.seat.me.0 (ms ++ l.fn.seat.me.0.mine) l.seat.me.0)
