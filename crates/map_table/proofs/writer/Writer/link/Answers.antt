use Rattle.table_words.proofs.Prelude.{◌≡◌, ℕ, ◌+◌, ◌*◌, ◌<◌, ◌≤◌, [], ◌∷◌, ◌++◌, ⊎_elim, inr, sym, ap, ◌∙◌, subst, refl, arith, List, slice_index}
use Rattle.table_words.proofs.Prelude.{IsSpare, IsCandidate}
use Rattle.map_table.proofs.Prelude.{Put, stored_of, TableShape, layout_of, first_bucket, second_bucket, tag_of, ways_of, TableView, WriterView, as_holder}
use Rattle.map_table.proofs.Prelude.{IsWriter, Fills, AreFull}
use Rattle.map_table.proofs.Going.{went_known, went_seated, went_then}
use Rattle.map_table.proofs.Filling.{went_shape, went_me}
use Rattle.map_table.proofs.Keeping.{quiet_append, fills_quiet, quiet_settled, settles_none, put_settled}
use Rattle.map_table.proofs.Lost.{quiet_none_lost, linked_none_lost}
use Rattle.map_table.proofs.Seen.{sightings_filled, sightings_put}
use Rattle.map_table.proofs.Linking.{may_link, linked_under, taken, filled_writer, linked_writer, works, of_both, way_low, fits_still, some_free}
use Rattle.map_table.proofs.writer.Writer.link.Goals as goal

pub fill_element-requires-clause-element : goal.fill_element-requires-clause-element
fill_element-requires-clause-element c =
    let i = c.self.invariant in
    let shape = ap (λ (w : WriterView). w.table.shape) c.self.view_is ∙ ap (λ (t : TableView). t.shape) c.requires.table in
    let t = taken c.self.inside.seat.me.0 _ _ _ _ c.in-Some-pop.element i.0 c.in-Some-pop.ensures.items in
    subst (λ (k : TableShape). c.in-Some-pop.element < k.elements) shape t.0.0

pub fill_element-requires-clause-spare : goal.fill_element-requires-clause-spare
fill_element-requires-clause-spare c =
    let i = c.self.invariant in
    let shape = ap (λ (w : WriterView). w.table.shape) c.self.view_is ∙ ap (λ (t : TableView). t.shape) c.requires.table in
    let t = taken c.self.inside.seat.me.0 _ _ _ _ c.in-Some-pop.element i.0 c.in-Some-pop.ensures.items in
    subst (λ (k : TableShape). IsSpare k.readers c.in-Some-pop.element c.self.inside.seat.me.0.mine) shape t.0.1

pub way_word-word-requires-clause-element : goal.way_word-word-requires-clause-element
way_word-word-requires-clause-element c =
    let i = c.self.invariant in
    let t = taken c.self.inside.seat.me.0 _ _ _ _ c.in-Some-pop.element i.0 c.in-Some-pop.ensures.items in
    let low = t.0.0 in
    let few = i.0.sized.elements in
    omega (arith, low, few)

pub put_word-requires-clause-may : goal.put_word-requires-clause-may
put_word-requires-clause-may c =
    let i = c.self.invariant in
    let f = c.fill_element.ensures in
    let e = c.candidates_of-candidates.ensures in
    let same = c.shape-shape.ensures.shape in
    let shape = ap (λ (w : WriterView). w.table.shape) c.self.view_is ∙ ap (λ (t : TableView). t.shape) c.requires.table in
    let t = taken c.self.inside.seat.me.0 _ _ _ _ c.in-Some-pop.element i.0 c.in-Some-pop.ensures.items in
    inr (may_link c.args.table.now.shape c.fill_element.new.seat.me.0 c.in-Some-pop.element c.in-Some.way c.way_word-word.result
    c.candidates_of-candidates.result.tag c.args.key.now
    (went_me c.self.inside.seat.me.0 c.fill_element.new.seat.me.0 ((f.steps.1 ++ f.steps.0) ++ c.self.inside.seat.me.0.mine) f.steps.4 ∙ i.0.me)
    (went_known c.self.inside.seat.me.0 c.fill_element.new.seat.me.0 ((f.steps.1 ++ f.steps.0) ++ c.self.inside.seat.me.0.mine) f.steps.4)
    (subst (λ (k : TableShape). c.in-Some-pop.element < k.elements) shape t.0.0) f.spare f.key c.way_word-word.ensures.names c.way_word-word.ensures.tag
    (e.tag ∙ ap (λ (k : TableShape). tag_of k c.args.key.now) same)
    (of_both c.args.table.now.shape c.args.key.now _ _ c.in-Some.way (e.first ∙ ap (λ (k : TableShape). first_bucket k c.args.key.now * 8) same)
    (e.second ∙ ap (λ (k : TableShape). second_bucket k c.args.key.now * 8) same) c.in-Some.ensures.some.0))

pub put_word-requires-clause-settles : goal.put_word-requires-clause-settles
put_word-requires-clause-settles c =
    let f = c.fill_element.ensures in
    let quiet = quiet_append f.steps.1 f.steps.0 (fills_quiet _ _ _ _ f.steps.1 f.steps.3) (fills_quiet _ _ _ _ f.steps.0 f.steps.2) in
    settles_none _ _ _ c.fill_element.new.seat.me.0.mine
    (quiet_settled c.self.inside.seat.me.0 c.fill_element.new.seat.me.0 (f.steps.1 ++ f.steps.0) quiet f.steps.4 c.self.invariant.6)

pub invariant_of-self-2 : goal.invariant_of-self-2
invariant_of-self-2 c =
    let i = c.self.invariant in
    let f = c.fill_element.ensures in
    let p = c.put_word.ensures in
    let h = c.in-Some-pop.ensures in
    let shape = ap (λ (w : WriterView). w.table.shape) c.self.view_is ∙ ap (λ (t : TableView). t.shape) c.requires.table in
    let e = c.candidates_of-candidates.ensures in
    let same = c.shape-shape.ensures.shape in
    let still = went_shape c.fill_element.new.seat.me.0 c.put_word.new.seat.me.0
    (Put c.in-Some.way c.way_word-word.result ∷ c.fill_element.new.seat.me.0.mine) p.step ∙ went_shape c.self.inside.seat.me.0
    c.fill_element.new.seat.me.0 ((f.steps.1 ++ f.steps.0) ++ c.self.inside.seat.me.0.mine) f.steps.4 in
    let low : c.in-Some.way < ways_of c.args.table.now.shape =
    way_low _ _ c.in-Some.way _ (subst (λ (k : TableShape). c.candidates_of-candidates.result.first + 8 ≤ ways_of k) same e.first_within)
    (subst (λ (k : TableShape). c.candidates_of-candidates.result.second + 8 ≤ ways_of k) same e.second_within) c.in-Some.ensures.some.0 in
    let v = c.self.inside.seat.me.0 in
    let u = c.fill_element.new.seat.me.0 in
    let w = c.put_word.new.seat.me.0 in
    let unlinked = c.self.inside.unlinked.items in
    let quiet = quiet_append f.steps.1 f.steps.0 (fills_quiet _ _ _ _ f.steps.1 f.steps.3) (fills_quiet _ _ _ _ f.steps.0 f.steps.2) in
    let filled = filled_writer v u c.self.inside.ways.items _ c.pop.new.self.items unlinked c.in-Some-pop.element _ _ _ c.args.key.now
    c.args.value.now f.steps.0 f.steps.1 i.0 h.items f.steps.2 f.steps.3 f.steps.4 in
    let empty = filled.1 c.in-Some.way ∙ (sym (i.0.are_ways c.in-Some.way (subst (λ (k : TableShape). c.in-Some.way < ways_of k) (sym shape) low)) ∙
    (ap (λ (xs : List ℕ). slice_index xs c.in-Some.way) (sym c.as_slice.ensures.value) ∙ c.in-Some.ensures.some.1)) in (
      subst (λ ways. IsWriter c.put_word.new.seat.me.0 ways c.pop.new.self.items c.self.inside.unlinked.items) (sym p.ways)
          (linked_writer c.self.inside.seat.me.0 c.fill_element.new.seat.me.0 c.put_word.new.seat.me.0 c.self.inside.ways.items _
          c.pop.new.self.items c.self.inside.unlinked.items c.in-Some-pop.element c.in-Some.way c.way_word-word.result _ _ _ c.args.key.now
          c.args.value.now f.steps.0 f.steps.1 i.0 h.items f.steps.2 f.steps.3 f.steps.4 p.step
          (subst (λ (k : TableShape). c.in-Some.way < ways_of k) (sym shape) low) c.way_word-word.ensures.names),
      p.held ∙ (f.held ∙ i.1),
      fits_still c.self.inside.seat.me.0 c.put_word.new.seat.me.0 _ _ still h.capacity i.2,
      fits_still c.self.inside.seat.me.0 c.put_word.new.seat.me.0 _ _ still refl i.3,
      sightings_put u w c.in-Some.way c.way_word-word.result unlinked c.self.inside.seen.items p.step filled.0.are_unlinked
          (sightings_filled v u c.in-Some-pop.element _ _ _ c.args.key.now c.args.value.now f.steps.0 f.steps.1 unlinked c.self.inside.seen.items
          f.steps.2 f.steps.3 f.steps.4 i.4),
      linked_none_lost u w c.in-Some.way c.way_word-word.result p.step c.in-Some-pop.element _ c.pop.new.self.items unlinked empty h.items
          c.way_word-word.ensures.names (quiet_none_lost v u (f.steps.1 ++ f.steps.0) quiet f.steps.4 _ unlinked i.5),
      put_settled u w c.in-Some.way c.way_word-word.result p.step,
      went_seated u w _ _ p.step (went_seated v u _ _ f.steps.4 i.7),
    )

pub returns-clause-steps : goal.returns-clause-steps
returns-clause-steps c =
    let f = c.fill_element.ensures in
    let p = c.put_word.ensures in
    let h = c.in-Some-pop.ensures in
    let k = ap (λ (t : TableView). t.shape) c.requires.table in (
      c.in-Some-pop.element,
      c.way_word-word.result,
      sym (ap (λ (w : WriterView). w.free) c.self.view_is) ∙ h.items,
      c.way_word-word.ensures.names,
      (
        f.steps.0,
        f.steps.1,
        subst (λ n. Fills c.in-Some-pop.element 0 c.args.key.now n f.steps.0) (λ a. (sym k a).key_words) f.steps.2,
        subst (λ (z : ℕ × ℕ). Fills c.in-Some-pop.element z.0 c.args.value.now z.1 f.steps.1) (λ a. ((sym k a).key_words, stored_of (sym k a))) f.steps.3,
        works _ _ c.self.inside.seat.me.0 c.put_word.new.seat.me.0 _ _ (ap as_holder c.self.view_is) (p.table ∙ f.table)
            (went_then c.self.inside.seat.me.0 c.fill_element.new.seat.me.0 c.put_word.new.seat.me.0 (f.steps.1 ++ f.steps.0)
            (Put c.in-Some.way c.way_word-word.result ∷ []) f.steps.4 p.step),
      ),
    )

pub returns-clause-under : goal.returns-clause-under
returns-clause-under c =
    let i = c.self.invariant in
    let f = c.fill_element.ensures in
    let shape = ap (λ (w : WriterView). w.table.shape) c.self.view_is ∙ ap (λ (t : TableView). t.shape) c.requires.table in
    linked_under c.args.table.now.shape c.fill_element.new.seat.me.0 c.put_word.new.seat.me.0 c.in-Some-pop.element c.in-Some.way
    c.way_word-word.result c.args.key.now (went_shape c.self.inside.seat.me.0 c.fill_element.new.seat.me.0
    ((f.steps.1 ++ f.steps.0) ++ c.self.inside.seat.me.0.mine) f.steps.4 ∙ shape)
    (went_me c.self.inside.seat.me.0 c.fill_element.new.seat.me.0 ((f.steps.1 ++ f.steps.0) ++ c.self.inside.seat.me.0.mine) f.steps.4 ∙ i.0.me)
    (went_known c.self.inside.seat.me.0 c.fill_element.new.seat.me.0 ((f.steps.1 ++ f.steps.0) ++ c.self.inside.seat.me.0.mine) f.steps.4)
    f.key c.way_word-word.ensures.names c.put_word.ensures.step

pub returns-clause-none : goal.returns-clause-none
returns-clause-none c =
    let i = c.self.invariant in
    let e = c.candidates_of-candidates.ensures in
    let same = c.shape-shape.ensures.shape in
    let shape = ap (λ (w : WriterView). w.table.shape) c.self.view_is ∙ ap (λ (t : TableView). t.shape) c.requires.table in
    let low : c.in-Some.way < ways_of c.args.table.now.shape =
    way_low _ _ c.in-Some.way _ (subst (λ (k : TableShape). c.candidates_of-candidates.result.first + 8 ≤ ways_of k) same e.first_within)
    (subst (λ (k : TableShape). c.candidates_of-candidates.result.second + 8 ≤ ways_of k) same e.second_within) c.in-Some.ensures.some.0 in
    let candidate = of_both c.args.table.now.shape c.args.key.now _ _ c.in-Some.way
    (e.first ∙ ap (λ (k : TableShape). first_bucket k c.args.key.now * 8) same)
    (e.second ∙ ap (λ (k : TableShape). second_bucket k c.args.key.now * 8) same) c.in-Some.ensures.some.0 in
    let empty = sym (i.0.are_ways c.in-Some.way (subst (λ (k : TableShape). c.in-Some.way < ways_of k) (sym shape) low)) ∙
    (ap (λ (xs : List ℕ). slice_index xs c.in-Some.way) (sym c.as_slice.ensures.value) ∙ c.in-Some.ensures.some.1) in (
      (λ no. absurd (cc)),
      (λ full. absurd (⊎_elim
          (λ (none : c.args.self.now.free ≡ []). some_free _ _ c.in-Some-pop.element
          (sym (ap (λ (w : WriterView). w.free) c.self.view_is) ∙ c.in-Some-pop.ensures.items) none)
          (λ (all : AreFull c.args.self.now.view c.args.key.now).
          subst (λ (w : WriterView). AreFull w.view c.args.key.now) (sym c.self.view_is) all c.in-Some.way
          (subst (λ (k : TableShape). IsCandidate (layout_of k) 0 c.args.key.now c.in-Some.way) (sym shape) candidate) empty) full)),
    )

pub returns-clause-within : goal.returns-clause-within
returns-clause-within c =
    let e = c.candidates_of-candidates.ensures in
    let same = c.shape-shape.ensures.shape in
    way_low _ _ c.in-Some.way _
    (subst (λ (k : TableShape). c.candidates_of-candidates.result.first + 8 ≤ ways_of k) same e.first_within)
    (subst (λ (k : TableShape). c.candidates_of-candidates.result.second + 8 ≤ ways_of k) same e.second_within)
    c.in-Some.ensures.some.0
