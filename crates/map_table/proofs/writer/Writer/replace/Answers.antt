use Rattle.table_words.proofs.Prelude.{rules, ℕ, ◌<◌, [], ◌∷◌, ◌++◌, inr, sym, ap, ◌∙◌, subst, arith, List, length, vec_capacity, IsSpare, word_in, Names}
use Rattle.table_words.proofs.Prelude.{IsCandidate, IsLinkedUnder}
use Rattle.map_table.proofs.Prelude.{Put, stored_of, TableShape, layout_of, tag_of, ways_of, TableView, StaysIn, WriterView, as_holder, IsWriter, IsNoneLost}
use Rattle.map_table.proofs.Prelude.{Fills, AreSightings}
use Rattle.map_table.proofs.Going.{went_known, went_seated, went_then}
use Rattle.map_table.proofs.Filling.{went_shape, went_me}
use Rattle.map_table.proofs.Keeping.{quiet_append, fills_quiet, quiet_settled, settles_none, put_settled}
use Rattle.map_table.proofs.Lost.{quiet_none_lost, replaced_none_lost}
use Rattle.map_table.proofs.Seen.{sightings_filled, sightings_unlinked}
use Rattle.map_table.proofs.Linking.{may_link, linked_under, taken, filled_writer, works, fits_still}
use Rattle.map_table.proofs.Replacing.{replaced_stays}
use Rattle.map_table.proofs.Unlinking.{low_half, read_way, less_most, linked_way, replaced_writer}
use Rattle.map_table.proofs.writer.Writer.replace.Goals as goal

pub element_in-gone-requires : goal.element_in-gone-requires
element_in-gone-requires c =
    let i = c.self.invariant in
    let shape = ap (λ (w : WriterView). w.table.shape) c.self.view_is ∙ ap (λ (t : TableView). t.shape) c.requires.table in
    let low : c.args.way < ways_of c.self.inside.seat.me.0.shape = subst (λ (k : TableShape). c.args.way < ways_of k) (sym shape) c.requires.way in
    let linked : IsLinkedUnder (layout_of c.self.inside.seat.me.0.shape) 0 c.args.key.now c.args.way c.self.inside.seat.me.0.seen =
    subst (λ (k : TableShape). IsLinkedUnder (layout_of k) 0 c.args.key.now c.args.way c.self.inside.seat.me.0.seen) (sym shape)
    (subst (λ (w : WriterView). IsLinkedUnder (layout_of c.args.table.now.shape) 0 c.args.key.now c.args.way w.view.seen) (sym c.self.view_is)
    c.requires.linked) in
    let here = linked_way c.self.inside.seat.me.0 c.self.inside.ways.items c.self.inside.free.items c.self.inside.unlinked.items c.args.key.now c.args.way
    i.0 linked in
    let read = read_way c.self.inside.seat.me.0 c.self.inside.ways.items c.self.inside.free.items c.self.inside.unlinked.items c.args.way
    c.index.result.now i.0 low c.index.ensures in
    low_half c.self.inside.seat.me.0 c.self.inside.ways.items c.self.inside.free.items c.self.inside.unlinked.items c.args.way c.index.result.now i.0
    here.1 read

pub fill_element-requires-clause-element : goal.fill_element-requires-clause-element
fill_element-requires-clause-element c =
    let i = c.self.invariant in
    let shape = ap (λ (w : WriterView). w.table.shape) c.self.view_is ∙ ap (λ (t : TableView). t.shape) c.requires.table in
    let t = taken c.self.inside.seat.me.0 _ _ _ _ c.in-Some.element i.0 c.in-Some.ensures.items in
    subst (λ (k : TableShape). c.in-Some.element < k.elements) shape t.0.0

pub fill_element-requires-clause-spare : goal.fill_element-requires-clause-spare
fill_element-requires-clause-spare c =
    let i = c.self.invariant in
    let shape = ap (λ (w : WriterView). w.table.shape) c.self.view_is ∙ ap (λ (t : TableView). t.shape) c.requires.table in
    let t = taken c.self.inside.seat.me.0 _ _ _ _ c.in-Some.element i.0 c.in-Some.ensures.items in
    subst (λ (k : TableShape). IsSpare k.readers c.in-Some.element c.self.inside.seat.me.0.mine) shape t.0.1

pub way_word-word-requires-clause-element : goal.way_word-word-requires-clause-element
way_word-word-requires-clause-element c =
    let i = c.self.invariant in
    let t = taken c.self.inside.seat.me.0 _ _ _ _ c.in-Some.element i.0 c.in-Some.ensures.items in
    let low = t.0.0 in
    let few = i.0.sized.elements in
    omega (arith, low, few)

pub put_word-requires-clause-may : goal.put_word-requires-clause-may
put_word-requires-clause-may c =
    let i = c.self.invariant in
    let shape = ap (λ (w : WriterView). w.table.shape) c.self.view_is ∙ ap (λ (t : TableView). t.shape) c.requires.table in
    let low : c.args.way < ways_of c.self.inside.seat.me.0.shape = subst (λ (k : TableShape). c.args.way < ways_of k) (sym shape) c.requires.way in
    let linked : IsLinkedUnder (layout_of c.self.inside.seat.me.0.shape) 0 c.args.key.now c.args.way c.self.inside.seat.me.0.seen =
    subst (λ (k : TableShape). IsLinkedUnder (layout_of k) 0 c.args.key.now c.args.way c.self.inside.seat.me.0.seen) (sym shape)
    (subst (λ (w : WriterView). IsLinkedUnder (layout_of c.args.table.now.shape) 0 c.args.key.now c.args.way w.view.seen) (sym c.self.view_is)
    c.requires.linked) in
    let here = linked_way c.self.inside.seat.me.0 c.self.inside.ways.items c.self.inside.free.items c.self.inside.unlinked.items c.args.key.now c.args.way
    i.0 linked in
    let read = read_way c.self.inside.seat.me.0 c.self.inside.ways.items c.self.inside.free.items c.self.inside.unlinked.items c.args.way
    c.index.result.now i.0 low c.index.ensures in
    let f = c.fill_element.ensures in
    let t = taken c.self.inside.seat.me.0 _ _ _ _ c.in-Some.element i.0 c.in-Some.ensures.items in
    let e = c.candidates_of-candidates.ensures in
    inr (may_link c.args.table.now.shape c.fill_element.new.seat.me.0 c.in-Some.element c.args.way c.way_word-word.result
    c.candidates_of-candidates.result.tag c.args.key.now
    (went_me c.self.inside.seat.me.0 c.fill_element.new.seat.me.0 ((f.steps.1 ++ f.steps.0) ++ c.self.inside.seat.me.0.mine) f.steps.4 ∙ i.0.me)
    (went_known c.self.inside.seat.me.0 c.fill_element.new.seat.me.0 ((f.steps.1 ++ f.steps.0) ++ c.self.inside.seat.me.0.mine) f.steps.4)
    (subst (λ (k : TableShape). c.in-Some.element < k.elements) shape t.0.0) f.spare f.key c.way_word-word.ensures.names c.way_word-word.ensures.tag
    (e.tag ∙ ap (λ (k : TableShape). tag_of k c.args.key.now) c.shape-shape.ensures.shape)
    (subst (λ (k : TableShape). IsCandidate (layout_of k) 0 c.args.key.now c.args.way) shape here.0))

pub put_word-requires-clause-settles : goal.put_word-requires-clause-settles
put_word-requires-clause-settles c =
    let f = c.fill_element.ensures in
    let quiet = quiet_append f.steps.1 f.steps.0 (fills_quiet _ _ _ _ f.steps.1 f.steps.3) (fills_quiet _ _ _ _ f.steps.0 f.steps.2) in
    settles_none _ _ _ c.fill_element.new.seat.me.0.mine
    (quiet_settled c.self.inside.seat.me.0 c.fill_element.new.seat.me.0 (f.steps.1 ++ f.steps.0) quiet f.steps.4 c.self.invariant.6)

pub push_reserved-requires : goal.push_reserved-requires
push_reserved-requires c =
    let i = c.self.invariant in
    let shape = ap (λ (w : WriterView). w.table.shape) c.self.view_is ∙ ap (λ (t : TableView). t.shape) c.requires.table in
    let low : c.args.way < ways_of c.self.inside.seat.me.0.shape = subst (λ (k : TableShape). c.args.way < ways_of k) (sym shape) c.requires.way in
    let linked : IsLinkedUnder (layout_of c.self.inside.seat.me.0.shape) 0 c.args.key.now c.args.way c.self.inside.seat.me.0.seen =
    subst (λ (k : TableShape). IsLinkedUnder (layout_of k) 0 c.args.key.now c.args.way c.self.inside.seat.me.0.seen) (sym shape)
    (subst (λ (w : WriterView). IsLinkedUnder (layout_of c.args.table.now.shape) 0 c.args.key.now c.args.way w.view.seen) (sym c.self.view_is)
    c.requires.linked) in
    let here = linked_way c.self.inside.seat.me.0 c.self.inside.ways.items c.self.inside.free.items c.self.inside.unlinked.items c.args.key.now c.args.way
    i.0 linked in
    let read = read_way c.self.inside.seat.me.0 c.self.inside.ways.items c.self.inside.free.items c.self.inside.unlinked.items c.args.way
    c.index.result.now i.0 low c.index.ensures in
    let f = c.fill_element.ensures in
    let h = c.in-Some.ensures in
    let there = subst (λ z. Names z c.element_in-gone.result) read c.element_in-gone.ensures in
    let r = replaced_writer c.self.inside.seat.me.0 c.fill_element.new.seat.me.0 c.put_word.new.seat.me.0 c.self.inside.ways.items _ c.pop.new.self.items
    c.self.inside.unlinked.items
    c.in-Some.element c.element_in-gone.result c.args.way c.way_word-word.result _ _ _ c.args.key.now c.args.value.now f.steps.0 f.steps.1 i.0 h.items
    f.steps.2 f.steps.3 f.steps.4 c.put_word.ensures.step low c.way_word-word.ensures.names there i.6 in
    let fits = i.3 in
    let less : length c.self.inside.unlinked.items < vec_capacity c.self.inside.unlinked = less_most _ _ _ _ r.1 fits in search rules

pub invariant_of-self-2 : goal.invariant_of-self-2
invariant_of-self-2 c =
    let i = c.self.invariant in
    let shape = ap (λ (w : WriterView). w.table.shape) c.self.view_is ∙ ap (λ (t : TableView). t.shape) c.requires.table in
    let low : c.args.way < ways_of c.self.inside.seat.me.0.shape = subst (λ (k : TableShape). c.args.way < ways_of k) (sym shape) c.requires.way in
    let linked : IsLinkedUnder (layout_of c.self.inside.seat.me.0.shape) 0 c.args.key.now c.args.way c.self.inside.seat.me.0.seen =
    subst (λ (k : TableShape). IsLinkedUnder (layout_of k) 0 c.args.key.now c.args.way c.self.inside.seat.me.0.seen) (sym shape)
    (subst (λ (w : WriterView). IsLinkedUnder (layout_of c.args.table.now.shape) 0 c.args.key.now c.args.way w.view.seen) (sym c.self.view_is)
    c.requires.linked) in
    let here = linked_way c.self.inside.seat.me.0 c.self.inside.ways.items c.self.inside.free.items c.self.inside.unlinked.items c.args.key.now c.args.way
    i.0 linked in
    let read = read_way c.self.inside.seat.me.0 c.self.inside.ways.items c.self.inside.free.items c.self.inside.unlinked.items c.args.way
    c.index.result.now i.0 low c.index.ensures in
    let f = c.fill_element.ensures in
    let h = c.in-Some.ensures in
    let p = c.put_word.ensures in
    let q = c.push_reserved.ensures in
    let there = subst (λ z. Names z c.element_in-gone.result) read c.element_in-gone.ensures in
    let r = replaced_writer c.self.inside.seat.me.0 c.fill_element.new.seat.me.0 c.put_word.new.seat.me.0 c.self.inside.ways.items _ c.pop.new.self.items
    c.self.inside.unlinked.items
    c.in-Some.element c.element_in-gone.result c.args.way c.way_word-word.result _ _ _ c.args.key.now c.args.value.now f.steps.0 f.steps.1 i.0 h.items
    f.steps.2 f.steps.3 f.steps.4 p.step low c.way_word-word.ensures.names there i.6 in
    let still = went_shape c.fill_element.new.seat.me.0 c.put_word.new.seat.me.0
    (Put c.args.way c.way_word-word.result ∷ c.fill_element.new.seat.me.0.mine) p.step ∙ went_shape c.self.inside.seat.me.0 c.fill_element.new.seat.me.0
    ((f.steps.1 ++ f.steps.0) ++ c.self.inside.seat.me.0.mine) f.steps.4 in
    let v = c.self.inside.seat.me.0 in
    let u = c.fill_element.new.seat.me.0 in
    let w = c.put_word.new.seat.me.0 in
    let unlinked = c.self.inside.unlinked.items in
    let gone = c.element_in-gone.result in
    let quiet = quiet_append f.steps.1 f.steps.0 (fills_quiet _ _ _ _ f.steps.1 f.steps.3) (fills_quiet _ _ _ _ f.steps.0 f.steps.2) in
    let filled = filled_writer v u c.self.inside.ways.items _ c.pop.new.self.items unlinked c.in-Some.element _ _ _ c.args.key.now
    c.args.value.now f.steps.0 f.steps.1 i.0 h.items f.steps.2 f.steps.3 f.steps.4 in
    let now : Names (word_in c.args.way u.mine) gone = subst (λ z. Names z gone) (sym (filled.1 c.args.way)) there in (
      subst (λ (z : List ℕ × List ℕ). IsWriter c.put_word.new.seat.me.0 z.0 c.pop.new.self.items z.1) (λ a. (sym p.ways a, sym q.items a)) r.0,
      p.held ∙ (f.held ∙ i.1),
      fits_still c.self.inside.seat.me.0 c.put_word.new.seat.me.0 _ _ still h.capacity i.2,
      fits_still c.self.inside.seat.me.0 c.put_word.new.seat.me.0 _ _ still q.capacity i.3,
      subst (λ (z : List ℕ). AreSightings w z c.self.inside.seen.items) (sym q.items)
          (sightings_unlinked u w c.args.way c.way_word-word.result gone unlinked c.self.inside.seen.items p.step filled.0.are_unlinked now
          (sightings_filled v u c.in-Some.element _ _ _ c.args.key.now c.args.value.now f.steps.0 f.steps.1 unlinked c.self.inside.seen.items
          f.steps.2 f.steps.3 f.steps.4 i.4)),
      subst (λ (z : List ℕ). IsNoneLost w c.pop.new.self.items z) (sym q.items)
          (replaced_none_lost u w c.args.way c.way_word-word.result p.step c.in-Some.element gone _ c.pop.new.self.items unlinked now h.items
          c.way_word-word.ensures.names (quiet_none_lost v u (f.steps.1 ++ f.steps.0) quiet f.steps.4 _ unlinked i.5)),
      put_settled u w c.args.way c.way_word-word.result p.step,
      went_seated u w _ _ p.step (went_seated v u _ _ f.steps.4 i.7),
    )

pub returns-clause-unlinked : goal.returns-clause-unlinked
returns-clause-unlinked c = λ yes.
    let i = c.self.invariant in
    let shape = ap (λ (w : WriterView). w.table.shape) c.self.view_is ∙ ap (λ (t : TableView). t.shape) c.requires.table in
    let low : c.args.way < ways_of c.self.inside.seat.me.0.shape = subst (λ (k : TableShape). c.args.way < ways_of k) (sym shape) c.requires.way in
    let linked : IsLinkedUnder (layout_of c.self.inside.seat.me.0.shape) 0 c.args.key.now c.args.way c.self.inside.seat.me.0.seen =
    subst (λ (k : TableShape). IsLinkedUnder (layout_of k) 0 c.args.key.now c.args.way c.self.inside.seat.me.0.seen) (sym shape)
    (subst (λ (w : WriterView). IsLinkedUnder (layout_of c.args.table.now.shape) 0 c.args.key.now c.args.way w.view.seen) (sym c.self.view_is)
    c.requires.linked) in
    let here = linked_way c.self.inside.seat.me.0 c.self.inside.ways.items c.self.inside.free.items c.self.inside.unlinked.items c.args.key.now c.args.way
    i.0 linked in
    let read = read_way c.self.inside.seat.me.0 c.self.inside.ways.items c.self.inside.free.items c.self.inside.unlinked.items c.args.way
    c.index.result.now i.0 low c.index.ensures in
    let there = subst (λ z. Names z c.element_in-gone.result) read c.element_in-gone.ensures in (
      c.element_in-gone.result,
      subst (λ (w : WriterView). Names (word_in c.args.way w.view.mine) c.element_in-gone.result) c.self.view_is there,
      c.push_reserved.ensures.items ∙ ap (λ (w : WriterView). w.unlinked ++ c.element_in-gone.result ∷ []) c.self.view_is,
    )

pub returns-clause-steps : goal.returns-clause-steps
returns-clause-steps c = λ yes.
    let f = c.fill_element.ensures in
    let p = c.put_word.ensures in
    let h = c.in-Some.ensures in
    let k = ap (λ (t : TableView). t.shape) c.requires.table in (
      c.in-Some.element,
      c.way_word-word.result,
      sym (ap (λ (w : WriterView). w.free) c.self.view_is) ∙ h.items,
      c.way_word-word.ensures.names,
      (
        f.steps.0,
        f.steps.1,
        subst (λ n. Fills c.in-Some.element 0 c.args.key.now n f.steps.0) (λ a. (sym k a).key_words) f.steps.2,
        subst (λ (z : ℕ × ℕ). Fills c.in-Some.element z.0 c.args.value.now z.1 f.steps.1) (λ a. ((sym k a).key_words, stored_of (sym k a))) f.steps.3,
        works _ _ c.self.inside.seat.me.0 c.put_word.new.seat.me.0 _ _ (ap as_holder c.self.view_is) (p.table ∙ f.table)
            (went_then c.self.inside.seat.me.0 c.fill_element.new.seat.me.0 c.put_word.new.seat.me.0 (f.steps.1 ++ f.steps.0)
            (Put c.args.way c.way_word-word.result ∷ []) f.steps.4 p.step),
      ),
    )

pub returns-clause-under : goal.returns-clause-under
returns-clause-under c = λ yes.
    let i = c.self.invariant in
    let f = c.fill_element.ensures in
    let shape = ap (λ (w : WriterView). w.table.shape) c.self.view_is ∙ ap (λ (t : TableView). t.shape) c.requires.table in
    linked_under c.args.table.now.shape c.fill_element.new.seat.me.0 c.put_word.new.seat.me.0 c.in-Some.element c.args.way
    c.way_word-word.result c.args.key.now (went_shape c.self.inside.seat.me.0 c.fill_element.new.seat.me.0
    ((f.steps.1 ++ f.steps.0) ++ c.self.inside.seat.me.0.mine) f.steps.4 ∙ shape)
    (went_me c.self.inside.seat.me.0 c.fill_element.new.seat.me.0 ((f.steps.1 ++ f.steps.0) ++ c.self.inside.seat.me.0.mine) f.steps.4 ∙ i.0.me)
    (went_known c.self.inside.seat.me.0 c.fill_element.new.seat.me.0 ((f.steps.1 ++ f.steps.0) ++ c.self.inside.seat.me.0.mine) f.steps.4)
    f.key c.way_word-word.ensures.names c.put_word.ensures.step

pub returns-clause-stays : goal.returns-clause-stays
returns-clause-stays c = λ yes.
    let i = c.self.invariant in
    let f = c.fill_element.ensures in
    let k = c.args.table.now.shape in
    let shape = ap (λ (w : WriterView). w.table.shape) c.self.view_is ∙
    ap (λ (t : TableView). t.shape) c.requires.table in
    let linked : IsLinkedUnder (layout_of k) 0 c.args.key.now c.args.way c.self.inside.seat.me.0.seen =
    subst (λ (w : WriterView). IsLinkedUnder (layout_of k) 0 c.args.key.now c.args.way w.view.seen) (sym c.self.view_is) c.requires.linked in
    subst (λ (w : WriterView). StaysIn k c.args.key.now c.args.way w.view.seen c.put_word.new.seat.me.0.seen) c.self.view_is
    (replaced_stays k c.self.inside.seat.me.0 c.fill_element.new.seat.me.0 c.put_word.new.seat.me.0 c.in-Some.element c.args.way
    c.way_word-word.result _ _ _ c.args.key.now c.args.value.now f.steps.0 f.steps.1 shape i.0.me i.0.known f.steps.2 f.steps.3 f.steps.4
    c.put_word.ensures.step f.key c.way_word-word.ensures.names linked)
