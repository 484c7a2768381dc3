use Rattle.table_words.proofs.Prelude.{◌≡◌, ◌≢◌, ◌*◌, ◌+◌, ◌≤◌, ◌<◌, ◌++◌, ◌∙◌, ℕ, List, refl, sym, ap, subst, inl, inr, slice_index, IsCandidate, Names}
use Rattle.table_words.proofs.Prelude.{word_in, key_of, MayDouble}
use Rattle.map_table.proofs.Prelude.{TableShape, layout_of, first_bucket, second_bucket, ways_of, TableView, MakesOneWay, NoneCanMove, WriterView, as_holder}
use Rattle.map_table.proofs.Prelude.{AreFull}
use Rattle.table_words.specs.Ways.{IsOfBoth}
use Rattle.map_table.proofs.Doubled.{candidate_both, could_move, words_full, searches_only_move, went_moves}
use Rattle.map_table.proofs.Filling.{went_shape}
use Rattle.map_table.proofs.Going.{goes_then, went_seated}
use Rattle.map_table.proofs.Keeping.{searches_quiet, quiet_writer, quiet_settled, same_word}
use Rattle.map_table.proofs.Linking.{fits_still, of_both, way_low, works}
use Rattle.map_table.proofs.Lost.{quiet_none_lost}
use Rattle.map_table.proofs.Seen.{inside_front, sightings_searched}
use Rattle.map_table.proofs.writer.Writer.find_room.Goals as goal

pub returns-in-Some-clause-made : goal.returns-in-Some-clause-made
returns-in-Some-clause-made c = λ made full.
    let i = c.self.invariant in
    let e = c.candidates_of-candidates.ensures in
    let same = c.shape-shape.ensures.shape in
    let key = c.args.key.now in
    let way = c.in-Some.field-0 in
    let shape = ap (λ (w : WriterView). w.table.shape) c.self.view_is ∙ ap (λ (t : TableView). t.shape) c.requires.table in
    let some = c.in-Some.ensures.some in
    let low : way < ways_of c.args.table.now.shape =
    way_low _ _ way _ (subst (λ (k : TableShape). c.candidates_of-candidates.result.first + 8 ≤ ways_of k) same e.first_within)
    (subst (λ (k : TableShape). c.candidates_of-candidates.result.second + 8 ≤ ways_of k) same e.second_within) some.0 in
    let candidate = of_both c.args.table.now.shape key _ _ way (e.first ∙ ap (λ (k : TableShape). first_bucket k key * 8) same)
    (e.second ∙ ap (λ (k : TableShape). second_bucket k key * 8) same) some.0 in
    let empty = sym (i.0.are_ways way (subst (λ (k : TableShape). way < ways_of k) (sym shape) low)) ∙
    (ap (λ (xs : List ℕ). slice_index xs way) (sym c.as_slice.ensures.value) ∙ some.1) in
    subst (λ (w : WriterView). AreFull w.view key) (sym c.self.view_is) full way
    (subst (λ (k : TableShape). IsCandidate (layout_of k) 0 key way) (sym shape) candidate) empty

pub invariant_of-self : goal.invariant_of-self
invariant_of-self c =
    let i = c.self.invariant in
    let k = c.args.table.now.shape in
    let s = c.find_move.ensures.steps in
    let v = c.self.inside.seat.me.0 in
    let w = c.find_move.new.seat.me.0 in
    let quiet = searches_quiet (layout_of k) 0 s.0 s.1 in
    let same = went_shape v w _ s.2 in (
      quiet_writer v w s.0 quiet s.2 c.self.inside.ways.items c.self.inside.free.items c.self.inside.unlinked.items i.0,
      c.find_move.ensures.held ∙ i.1,
      fits_still v w _ _ same refl i.2,
      fits_still v w _ _ same refl i.3,
      sightings_searched (layout_of k) 0 v w s.0 c.self.inside.unlinked.items c.self.inside.seen.items s.1 s.2 i.4,
      quiet_none_lost v w s.0 quiet s.2 c.self.inside.free.items c.self.inside.unlinked.items i.5,
      quiet_settled v w s.0 quiet s.2 i.6,
      went_seated v w _ _ s.2 i.7,
    )

pub invariant_of-self-2 : goal.invariant_of-self-2
invariant_of-self-2 c =
    let i = c.self.invariant in
    let k = c.args.table.now.shape in
    let s = c.find_move.ensures.steps in
    let v = c.self.inside.seat.me.0 in
    let w = c.find_move.new.seat.me.0 in
    let quiet = searches_quiet (layout_of k) 0 s.0 s.1 in
    let same = went_shape v w _ s.2 in (
      quiet_writer v w s.0 quiet s.2 c.self.inside.ways.items c.self.inside.free.items c.self.inside.unlinked.items i.0,
      c.find_move.ensures.held ∙ i.1,
      fits_still v w _ _ same refl i.2,
      fits_still v w _ _ same refl i.3,
      sightings_searched (layout_of k) 0 v w s.0 c.self.inside.unlinked.items c.self.inside.seen.items s.1 s.2 i.4,
      quiet_none_lost v w s.0 quiet s.2 c.self.inside.free.items c.self.inside.unlinked.items i.5,
      quiet_settled v w s.0 quiet s.2 i.6,
      went_seated v w _ _ s.2 i.7,
    )

pub returns-in_default-find_move-clause-steps : goal.returns-in_default-find_move-clause-steps
returns-in_default-find_move-clause-steps c =
    let s = c.find_move.ensures.steps in (
      s.0,
      searches_only_move (layout_of c.args.table.now.shape) 0 s.0 c.args.self.now.view.mine s.1,
      works _ _ c.self.inside.seat.me.0 c.find_move.new.seat.me.0 _ s.0 (ap as_holder c.self.view_is) c.find_move.ensures.table s.2,
      λ no. absurd cc,
    )

pub returns-in_default-find_move-clause-full : goal.returns-in_default-find_move-clause-full
returns-in_default-find_move-clause-full c = λ full.
    let i = c.self.invariant in
    let e = c.candidates_of-candidates.ensures in
    let same = c.shape-shape.ensures.shape in
    let key = c.args.key.now in
    let k = c.args.table.now.shape in
    let s = c.find_move.ensures.steps in
    let v = c.self.inside.seat.me.0 in
    let w = c.find_move.new.seat.me.0 in
    let shape = ap (λ (w : WriterView). w.table.shape) c.self.view_is ∙ ap (λ (t : TableView). t.shape) c.requires.table in
    let w_shape : w.shape ≡ k = went_shape v w _ s.2 ∙ shape in
    let count = i.0.count ∙ ap ways_of shape in
    let words : (x : ℕ) → x < ways_of k → slice_index c.self.inside.ways.items x ≡ word_in x w.mine = λ x low.
    i.0.are_ways x (subst (λ (t : TableShape). x < ways_of t) (sym shape) low) ∙ sym (same_word v w s.0 (searches_quiet (layout_of k) 0 s.0 s.1) s.2 x) in
    let some : (x : ℕ) → slice_index c.as_slice-ways.result.now x ≢ 0 → word_in x w.mine ≢ 0 = λ x not.
    words_full w c.self.inside.ways.items (ways_of k) count words x
    (λ none. not (ap (λ (xs : List ℕ). slice_index xs x) c.as_slice-ways.ensures.value ∙ none)) in
    let both : (way : ℕ) → IsCandidate (layout_of w.shape) 0 key way →
    IsOfBoth c.candidates_of-candidates.result.first c.candidates_of-candidates.result.second way =
    λ way candidate. candidate_both k key _ _ way (e.first ∙ ap (λ (k : TableShape). first_bucket k key * 8) same)
    (e.second ∙ ap (λ (k : TableShape). second_bucket k key * 8) same) (subst (λ (t : TableShape). IsCandidate (layout_of t) 0 key way) w_shape candidate) in (
      λ way candidate. some way (λ none. c.in_default.ensures.none refl way (both way candidate)
          (ap (λ (xs : List ℕ). slice_index xs way) (c.as_slice.ensures.value ∙ sym c.as_slice-ways.ensures.value) ∙ none)),
      λ way element candidate names other its. some other (c.in_default-find_move.ensures.none refl way element (both way candidate)
          (subst (λ z. Names z element) (sym (ap (λ (xs : List ℕ). slice_index xs way) c.as_slice-ways.ensures.value ∙
          words way (way_low _ _ way _ (subst (λ (t : TableShape). c.candidates_of-candidates.result.first + 8 ≤ ways_of t) same e.first_within)
          (subst (λ (t : TableShape). c.candidates_of-candidates.result.second + 8 ≤ ways_of t) same e.second_within) (both way candidate)))) names)
          other (subst (λ (t : TableShape). IsCandidate (layout_of t) 0 (key_of (layout_of t) element w.seen) other) w_shape its)),
    )

pub returns-then-move_to-clause-steps : goal.returns-then-move_to-clause-steps
returns-then-move_to-clause-steps c =
    let s = c.find_move.ensures.steps in
    let t = c.move_to.ensures.steps in
    let v = c.self.inside.seat.me.0 in
    let w = c.find_move.new.seat.me.0 in
    let goes = works _ _ v w _ s.0 (ap as_holder c.self.view_is) c.find_move.ensures.table s.2 in (
      t.0 ++ s.0,
      went_moves v w c.args.self.now.view (ap (λ (z : WriterView). z.view) c.self.view_is) (layout_of c.args.table.now.shape) s.0 t.0 s.1 s.2 t.1,
      goes_then _ _ _ s.0 t.0 goes t.2,
      λ no. absurd cc,
    )

pub returns-else-move_to-clause-steps : goal.returns-else-move_to-clause-steps
returns-else-move_to-clause-steps c =
    let s = c.find_move.ensures.steps in
    let t = c.move_to.ensures.steps in
    let v = c.self.inside.seat.me.0 in
    let w = c.find_move.new.seat.me.0 in
    let goes = works _ _ v w _ s.0 (ap as_holder c.self.view_is) c.find_move.ensures.table s.2 in
    let inside = t.3 c.if-move_to.false in (
      t.0 ++ s.0,
      went_moves v w c.args.self.now.view (ap (λ (z : WriterView). z.view) c.self.view_is) (layout_of c.args.table.now.shape) s.0 t.0 s.1 s.2 t.1,
      goes_then _ _ _ s.0 t.0 goes t.2,
      λ held. (inside.0, inside.1, inside.2, inside_front inside.0 t.0 s.0 inside.3),
    )

pub returns-else-move_to-clause-held : goal.returns-else-move_to-clause-held
returns-else-move_to-clause-held c = λ held.
    let i = c.self.invariant in
    let e = c.candidates_of-candidates.ensures in
    let same = c.shape-shape.ensures.shape in
    let key = c.args.key.now in
    let k = c.args.table.now.shape in
    let v = c.self.inside.seat.me.0 in
    let shape = ap (λ (w : WriterView). w.table.shape) c.self.view_is ∙ ap (λ (t : TableView). t.shape) c.requires.table in
    let count = i.0.count ∙ ap ways_of shape in
    let words : (x : ℕ) → x < ways_of k → slice_index c.self.inside.ways.items x ≡ word_in x v.mine = λ x low.
    i.0.are_ways x (subst (λ (t : TableShape). x < ways_of t) (sym shape) low) in
    let full : AreFull v key = λ way candidate. words_full v c.self.inside.ways.items (ways_of k) count words way
    (λ none. c.in_default.ensures.none refl way
    (candidate_both k key _ _ way (e.first ∙ ap (λ (k : TableShape). first_bucket k key * 8) same)
    (e.second ∙ ap (λ (k : TableShape). second_bucket k key * 8) same) (subst (λ (t : TableShape). IsCandidate (layout_of t) 0 key way) shape candidate))
    (ap (λ (xs : List ℕ). slice_index xs way) c.as_slice.ensures.value ∙ none)) in
    let s = c.find_move.ensures.steps in
    let w = c.find_move.new.seat.me.0 in
    let m = c.in-Some-find_move.ensures.some in
    let from = c.in-Some-find_move.from in
    let candidate = of_both k key _ _ from (e.first ∙ ap (λ (k : TableShape). first_bucket k key * 8) same)
    (e.second ∙ ap (λ (k : TableShape). second_bucket k key * 8) same) m.0 in
    let from_low = way_low _ _ from _ (subst (λ (t : TableShape). c.candidates_of-candidates.result.first + 8 ≤ ways_of t) same e.first_within)
    (subst (λ (t : TableShape). c.candidates_of-candidates.result.second + 8 ≤ ways_of t) same e.second_within) m.0 in
    let may = subst (λ (z : List ℕ). MayDouble (layout_of k) w.seen from c.in-Some-find_move.to (slice_index z from))
    c.as_slice-ways.ensures.value m.2 in
    subst (λ (w : WriterView). AreFull w.view key × (NoneCanMove w.view key → ⊥)) c.self.view_is (
      full,
      could_move k v w s.0 key c.self.inside.ways.items from c.in-Some-find_move.to shape i.0.me i.0.known s.1 s.2 candidate
          (words from from_low) may,
    )

pub returns-else-move_to-clause-still : goal.returns-else-move_to-clause-still
returns-else-move_to-clause-still c = λ held. λ way.
    let k = c.args.table.now.shape in
    let s = c.find_move.ensures.steps in
    let v = c.self.inside.seat.me.0 in
    let w = c.find_move.new.seat.me.0 in
    c.move_to.ensures.still c.if-move_to.false way ∙ (same_word v w s.0 (searches_quiet (layout_of k) 0 s.0 s.1) s.2 way ∙
    ap (λ (z : WriterView). word_in way z.view.mine) c.self.view_is)

pub returns-then-move_to-clause-moved : goal.returns-then-move_to-clause-moved
returns-then-move_to-clause-moved c = λ made.
    let i = c.self.invariant in
    let e = c.candidates_of-candidates.ensures in
    let same = c.shape-shape.ensures.shape in
    let key = c.args.key.now in
    let k = c.args.table.now.shape in
    let v = c.self.inside.seat.me.0 in
    let shape = ap (λ (w : WriterView). w.table.shape) c.self.view_is ∙ ap (λ (t : TableView). t.shape) c.requires.table in
    let count = i.0.count ∙ ap ways_of shape in
    let words : (x : ℕ) → x < ways_of k → slice_index c.self.inside.ways.items x ≡ word_in x v.mine = λ x low.
    i.0.are_ways x (subst (λ (t : TableShape). x < ways_of t) (sym shape) low) in
    let full : AreFull v key = λ way candidate. words_full v c.self.inside.ways.items (ways_of k) count words way
    (λ none. c.in_default.ensures.none refl way
    (candidate_both k key _ _ way (e.first ∙ ap (λ (k : TableShape). first_bucket k key * 8) same)
    (e.second ∙ ap (λ (k : TableShape). second_bucket k key * 8) same) (subst (λ (t : TableShape). IsCandidate (layout_of t) 0 key way) shape candidate))
    (ap (λ (xs : List ℕ). slice_index xs way) c.as_slice.ensures.value ∙ none)) in
    let s = c.find_move.ensures.steps in
    let w = c.find_move.new.seat.me.0 in
    let m = c.in-Some-find_move.ensures.some in
    let from = c.in-Some-find_move.from in
    let candidate = of_both k key _ _ from (e.first ∙ ap (λ (k : TableShape). first_bucket k key * 8) same)
    (e.second ∙ ap (λ (k : TableShape). second_bucket k key * 8) same) m.0 in
    let g = c.move_to.ensures.gone c.if-move_to.true in
    let before : (way : ℕ) → word_in way w.mine ≡ word_in way v.mine = same_word v w s.0 (searches_quiet (layout_of k) 0 s.0 s.1) s.2 in
    subst (λ (z : WriterView). MakesOneWay key z.view c.move_to.new.self.view) c.self.view_is
    (inl (
      full,
      (
        from,
        c.in-Some-find_move.to,
        subst (λ (t : TableShape). IsCandidate (layout_of t) 0 key from) (sym shape) candidate,
        record {
          empty = sym (before c.in-Some-find_move.to) ∙ g.empty;
          emptied = g.emptied;
          there = g.there ∙ before from;
          others = λ way one other. g.others way one other ∙ before way;
        },
      ),
    ))

pub returns-in_default-find_move-clause-still : goal.returns-in_default-find_move-clause-still
returns-in_default-find_move-clause-still c = λ no way.
    let k = c.args.table.now.shape in
    let s = c.find_move.ensures.steps in
    same_word c.self.inside.seat.me.0 c.find_move.new.seat.me.0 s.0 (searches_quiet (layout_of k) 0 s.0 s.1) s.2 way ∙
    ap (λ (z : WriterView). word_in way z.view.mine) c.self.view_is

pub returns-in-Some-clause-moved : goal.returns-in-Some-clause-moved
returns-in-Some-clause-moved c = λ made. inr (returns-in-Some-clause-made c made, λ way. refl)
