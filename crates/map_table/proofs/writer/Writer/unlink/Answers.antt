use Rattle.table_words.proofs.Prelude.{rules, ◌≢◌, ◌<◌, [], ◌∷◌, ◌++◌, ◌∙◌, refl, sym, ap, subst, ℕ, List, length, vec_capacity, Names, word_in}
use Rattle.map_table.proofs.Prelude.{Put, TableShape, ways_of, TableView, WriterView, as_holder, IsWriter, IsNoneLost, AreSightings}
use Rattle.map_table.proofs.Lost.{emptied_none_lost}
use Rattle.map_table.proofs.Seen.{sightings_unlinked}
use Rattle.map_table.proofs.Filling.{went_shape}
use Rattle.map_table.proofs.Going.{went_seated}
use Rattle.map_table.proofs.Keeping.{settles_none, put_settled}
use Rattle.map_table.proofs.Linking.{fits_still, works}
use Rattle.map_table.proofs.Unlinking.{low_half, read_way, less_most, space, emptied_writer}
use Rattle.map_table.proofs.writer.Writer.unlink.Goals as goal

pub element_in-element-requires : goal.element_in-element-requires
element_in-element-requires c =
    let i = c.self.invariant in
    let shape = ap (λ (w : WriterView). w.table.shape) c.self.view_is ∙ ap (λ (t : TableView). t.shape) c.requires.table in
    let low : c.args.way < ways_of c.self.inside.seat.me.0.shape = subst (λ (k : TableShape). c.args.way < ways_of k) (sym shape) c.requires.way in
    let read = read_way c.self.inside.seat.me.0 c.self.inside.ways.items c.self.inside.free.items c.self.inside.unlinked.items c.args.way
    c.index.result.now i.0 low c.index.ensures in
    let some = subst (λ (w : WriterView). word_in c.args.way w.view.mine ≢ 0) (sym c.self.view_is) c.requires.linked in
    low_half c.self.inside.seat.me.0 c.self.inside.ways.items c.self.inside.free.items c.self.inside.unlinked.items c.args.way c.index.result.now i.0 some read

pub put_word-requires-clause-settles : goal.put_word-requires-clause-settles
put_word-requires-clause-settles c = settles_none _ _ _ c.self.inside.seat.me.0.mine c.self.invariant.6

pub push_reserved-requires : goal.push_reserved-requires
push_reserved-requires c =
    let i = c.self.invariant in
    let shape = ap (λ (w : WriterView). w.table.shape) c.self.view_is ∙ ap (λ (t : TableView). t.shape) c.requires.table in
    let low : c.args.way < ways_of c.self.inside.seat.me.0.shape = subst (λ (k : TableShape). c.args.way < ways_of k) (sym shape) c.requires.way in
    let read = read_way c.self.inside.seat.me.0 c.self.inside.ways.items c.self.inside.free.items c.self.inside.unlinked.items c.args.way
    c.index.result.now i.0 low c.index.ensures in
    let names = subst (λ z. Names z c.element_in-element.result) read c.element_in-element.ensures in
    let s = space c.self.inside.seat.me.0 c.self.inside.ways.items c.self.inside.free.items c.self.inside.unlinked.items c.args.way
    c.element_in-element.result i.0 names in
    let fits = i.3 in
    let less : length c.self.inside.unlinked.items < vec_capacity c.self.inside.unlinked = less_most _ _ _ _ s fits in search rules

pub invariant_of-self : goal.invariant_of-self
invariant_of-self c =
    let i = c.self.invariant in
    let shape = ap (λ (w : WriterView). w.table.shape) c.self.view_is ∙ ap (λ (t : TableView). t.shape) c.requires.table in
    let low : c.args.way < ways_of c.self.inside.seat.me.0.shape = subst (λ (k : TableShape). c.args.way < ways_of k) (sym shape) c.requires.way in
    let read = read_way c.self.inside.seat.me.0 c.self.inside.ways.items c.self.inside.free.items c.self.inside.unlinked.items c.args.way
    c.index.result.now i.0 low c.index.ensures in
    let names = subst (λ z. Names z c.element_in-element.result) read c.element_in-element.ensures in
    let p = c.put_word.ensures in
    let q = c.push_reserved.ensures in
    let still = went_shape c.self.inside.seat.me.0 c.put_word.new.seat.me.0 (Put c.args.way 0 ∷ c.self.inside.seat.me.0.mine) p.step in (
      subst (λ (z : List ℕ × List ℕ). IsWriter c.put_word.new.seat.me.0 z.0 c.self.inside.free.items z.1) (λ a. (sym p.ways a, sym q.items a))
          (emptied_writer c.self.inside.seat.me.0 c.self.inside.ways.items c.self.inside.free.items c.self.inside.unlinked.items c.args.way
          c.element_in-element.result i.0 names i.6 c.put_word.new.seat.me.0 p.step low),
      p.held ∙ i.1,
      fits_still c.self.inside.seat.me.0 c.put_word.new.seat.me.0 _ _ still refl i.2,
      fits_still c.self.inside.seat.me.0 c.put_word.new.seat.me.0 _ _ still q.capacity i.3,
      subst (λ (z : List ℕ). AreSightings c.put_word.new.seat.me.0 z c.self.inside.seen.items) (sym q.items)
          (sightings_unlinked c.self.inside.seat.me.0 c.put_word.new.seat.me.0 c.args.way 0 c.element_in-element.result c.self.inside.unlinked.items
          c.self.inside.seen.items p.step i.0.are_unlinked names i.4),
      subst (λ (z : List ℕ). IsNoneLost c.put_word.new.seat.me.0 c.self.inside.free.items z) (sym q.items)
          (emptied_none_lost c.self.inside.seat.me.0 c.put_word.new.seat.me.0 c.args.way 0 p.step c.element_in-element.result
          c.self.inside.free.items c.self.inside.unlinked.items names i.5),
      put_settled c.self.inside.seat.me.0 c.put_word.new.seat.me.0 c.args.way 0 p.step,
      went_seated c.self.inside.seat.me.0 c.put_word.new.seat.me.0 _ _ p.step i.7,
    )

pub returns-clause-unlinked : goal.returns-clause-unlinked
returns-clause-unlinked c =
    let i = c.self.invariant in
    let shape = ap (λ (w : WriterView). w.table.shape) c.self.view_is ∙ ap (λ (t : TableView). t.shape) c.requires.table in
    let low : c.args.way < ways_of c.self.inside.seat.me.0.shape = subst (λ (k : TableShape). c.args.way < ways_of k) (sym shape) c.requires.way in
    let read = read_way c.self.inside.seat.me.0 c.self.inside.ways.items c.self.inside.free.items c.self.inside.unlinked.items c.args.way
    c.index.result.now i.0 low c.index.ensures in
    let names = subst (λ z. Names z c.element_in-element.result) read c.element_in-element.ensures in (
      c.element_in-element.result,
      subst (λ (w : WriterView). Names (word_in c.args.way w.view.mine) c.element_in-element.result) c.self.view_is names,
      c.push_reserved.ensures.items ∙ ap (λ (w : WriterView). w.unlinked ++ c.element_in-element.result ∷ []) c.self.view_is,
    )

pub returns-clause-step : goal.returns-clause-step
returns-clause-step c = works _ _ c.self.inside.seat.me.0 c.put_word.new.seat.me.0 _ (Put c.args.way 0 ∷ []) (ap as_holder c.self.view_is)
    c.put_word.ensures.table c.put_word.ensures.step
