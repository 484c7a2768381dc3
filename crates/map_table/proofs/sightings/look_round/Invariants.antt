use Rattle.table_words.proofs.Prelude.{◌≡◌, ◌++◌, List, length, ScansInTurn}
use Rattle.map_table.proofs.Prelude.{Move, Went, AreSightings}
use Rattle.map_table.proofs.Seen.{Looked}
use Rattle.map_table.proofs.sightings.look_round.Given as goal

abbrev pub invariant-loop-reader : goal.invariant-loop-reader
invariant-loop-reader l = (l.seat.table_id ≡ l.fn.seat.table_id) × (l.seat.me.1 ≡ l.fn.seat.me.1) ×
    AreSightings l.seat.me.0 l.unlinked l.seen.items ×
    ((ms : List Move) × Went l.fn.seat.me.0 (ms ++ l.fn.seat.me.0.mine) l.seat.me.0 ×
    ScansInTurn 0 l.reader ms × Looked l.reader (length l.unlinked) l.seen.items ms)
