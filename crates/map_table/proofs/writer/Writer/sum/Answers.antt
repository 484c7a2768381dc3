use Rattle.table_words.proofs.Prelude.{◌+◌, ◌∙◌, refl}
use Rattle.map_table.proofs.Prelude.{copies_of}
use Rattle.map_table.proofs.Filling.{went_shape}
use Rattle.map_table.proofs.Going.{went_seated}
use Rattle.map_table.proofs.Keeping.{adds_quiet, quiet_writer, quiet_settled}
use Rattle.map_table.proofs.Linking.{fits_still}
use Rattle.map_table.proofs.Lost.{quiet_none_lost}
use Rattle.map_table.proofs.Seen.{sightings_added}
use Rattle.map_table.proofs.writer.Writer.sum.Goals as goal

pub invariant_of-self : goal.invariant_of-self
invariant_of-self c =
    let i = c.self.invariant in
    let k = c.args.table.now.shape in
    let s = c.add_up.ensures.steps in
    let v = c.self.inside.seat.me.0 in
    let w = c.add_up.new.seat.me.0 in
    let from = k.key_words + c.args.place in
    let quiet = adds_quiet c.args.element from k.value_words (copies_of k) s.0 c.add_up.result s.1 in
    let same = went_shape v w _ s.2 in (
      quiet_writer v w s.0 quiet s.2 c.self.inside.ways.items c.self.inside.free.items c.self.inside.unlinked.items i.0,
      c.add_up.ensures.held ∙ i.1,
      fits_still v w _ _ same refl i.2,
      fits_still v w _ _ same refl i.3,
      sightings_added c.args.element from k.value_words (copies_of k) v w s.0 c.add_up.result c.self.inside.unlinked.items
          c.self.inside.seen.items s.1 s.2 i.4,
      quiet_none_lost v w s.0 quiet s.2 c.self.inside.free.items c.self.inside.unlinked.items i.5,
      quiet_settled v w s.0 quiet s.2 i.6,
      went_seated v w _ _ s.2 i.7,
    )
