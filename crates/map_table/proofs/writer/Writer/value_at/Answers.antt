use Rattle.table_words.proofs.Prelude.{◌∙◌, refl}
use Rattle.map_table.proofs.Filling.{went_shape}
use Rattle.map_table.proofs.Going.{went_seated}
use Rattle.map_table.proofs.Keeping.{loads_quiet, quiet_writer, quiet_settled}
use Rattle.map_table.proofs.Linking.{fits_still}
use Rattle.map_table.proofs.Lost.{quiet_none_lost}
use Rattle.map_table.proofs.Seen.{sightings_loaded}
use Rattle.map_table.proofs.writer.Writer.value_at.Goals as goal

pub invariant_of-self : goal.invariant_of-self
invariant_of-self c =
    let i = c.self.invariant in
    let s = c.load_values.ensures.steps in
    let v = c.self.inside.seat.me.0 in
    let w = c.load_values.new.seat.me.0 in
    let quiet = loads_quiet s.0 s.1 in
    let same = went_shape v w _ s.3 in (
      quiet_writer v w s.0 quiet s.3 c.self.inside.ways.items c.self.inside.free.items c.self.inside.unlinked.items i.0,
      c.load_values.ensures.held ∙ i.1,
      fits_still v w _ _ same refl i.2,
      fits_still v w _ _ same refl i.3,
      sightings_loaded v w s.0 c.self.inside.unlinked.items c.self.inside.seen.items s.1 s.3 i.4,
      quiet_none_lost v w s.0 quiet s.3 c.self.inside.free.items c.self.inside.unlinked.items i.5,
      quiet_settled v w s.0 quiet s.3 i.6,
      went_seated v w _ _ s.3 i.7,
    )
