use Rattle.table_words.proofs.Prelude.{◌∙◌, ap, refl, subst, sym, word_in, Names}
use Rattle.map_table.proofs.Prelude.{layout_of, TableView, WriterView}
use Rattle.map_table.proofs.Filling.{went_shape}
use Rattle.map_table.proofs.Going.{went_seated}
use Rattle.map_table.proofs.Keeping.{searches_quiet, quiet_writer, quiet_settled}
use Rattle.map_table.proofs.Linking.{fits_still}
use Rattle.map_table.proofs.Lost.{quiet_none_lost}
use Rattle.map_table.proofs.Peeking.{has_under}
use Rattle.map_table.proofs.Seen.{sightings_searched}
use Rattle.map_table.proofs.writer.Writer.key_at.Goals as goal

pub invariant_of-self : goal.invariant_of-self
invariant_of-self c =
    let i = c.self.invariant in
    let k = c.args.table.now.shape in
    let s = c.load_key.ensures.steps in
    let v = c.self.inside.seat.me.0 in
    let w = c.load_key.new.seat.me.0 in
    let same = went_shape v w _ s.2 in (
      quiet_writer v w s.0 (searches_quiet (layout_of k) 0 s.0 s.1) s.2 c.self.inside.ways.items c.self.inside.free.items
          c.self.inside.unlinked.items i.0,
      c.load_key.ensures.held ∙ i.1,
      fits_still v w _ _ same refl i.2,
      fits_still v w _ _ same refl i.3,
      sightings_searched (layout_of k) 0 v w s.0 c.self.inside.unlinked.items c.self.inside.seen.items s.1 s.2 i.4,
      quiet_none_lost v w s.0 (searches_quiet (layout_of k) 0 s.0 s.1) s.2 c.self.inside.free.items c.self.inside.unlinked.items i.5,
      quiet_settled v w s.0 (searches_quiet (layout_of k) 0 s.0 s.1) s.2 i.6,
      went_seated v w _ _ s.2 i.7,
    )

pub returns-clause-found : goal.returns-clause-found
returns-clause-found c = λ _.
    let b = c.self.invariant.0 in
    let k = c.args.table.now.shape in
    let s = c.load_key.ensures.steps in
    let v = c.self.inside.seat.me.0 in
    let shape = ap (λ (w : WriterView). w.table.shape) c.self.view_is ∙ ap (λ (t : TableView). t.shape) c.requires.table in
    let names = subst (λ (w : WriterView). Names (word_in c.args.way w.view.mine) c.in-Some.element) (sym c.self.view_is) c.in-Some.ensures.some in
    has_under k v c.load_key.new.seat.me.0 s.0 shape b.me b.known s.1 s.2 c.load_key.new.key c.args.way (word_in c.args.way v.mine)
    c.in-Some.element refl names c.load_key.ensures.key
