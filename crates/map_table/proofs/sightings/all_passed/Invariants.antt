use Rattle.table_words.proofs.Prelude.{◌≡◌}
use Rattle.map_table.proofs.Prelude.{AreSightings}
use Rattle.map_table.proofs.Passing.{FirstPassed}
use Rattle.map_table.proofs.sightings.all_passed.Given as goal

abbrev pub invariant-loop-reader : goal.invariant-loop-reader
invariant-loop-reader l = (l.seat.table_id ≡ l.fn.seat.table_id) × (l.seat.me.1 ≡ l.fn.seat.me.1) ×
    AreSightings l.seat.me.0 l.unlinked l.seen.items × FirstPassed l.reader l.fn.seat.me.0 l.seat.me.0
