use Rattle.table_words.proofs.Prelude.{◌≡◌}
use Rattle.map_table.proofs.Prelude.{AreSightings}
use Rattle.map_table.proofs.Passing.{HasLooked}
use Rattle.map_table.proofs.sightings.has_passed.Given as goal

abbrev pub invariant-loop : goal.invariant-loop
invariant-loop l = (l.seat.table_id ≡ l.fn.seat.table_id) × (l.seat.me.1 ≡ l.fn.seat.me.1) ×
    AreSightings l.seat.me.0 l.unlinked l.seen.items × HasLooked l.reader l.first l.fn.seat.me.0 l.seat.me.0
