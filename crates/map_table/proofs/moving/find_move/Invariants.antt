use Rattle.table_words.proofs.Prelude.{◌≡◌, ◌++◌, List, OnlySearches}
use Rattle.map_table.proofs.Prelude.{Move, layout_of, Went}
use Rattle.map_table.proofs.Doubled.{NoneYet}
use Rattle.map_table.proofs.moving.find_move.Given as goal

abbrev pub invariant-loop-at : goal.invariant-loop-at
invariant-loop-at l = (l.seat.table_id ≡ l.fn.seat.table_id) × (l.seat.me.1 ≡ l.fn.seat.me.1) ×
    ((ms : List Move) × OnlySearches (layout_of l.table.shape) 0 ms × Went l.fn.seat.me.0 (ms ++ l.fn.seat.me.0.mine) l.seat.me.0) ×
    NoneYet l.table.shape l.ways l.candidates.first l.candidates.second l.at l.seat.me.0
