use Rattle.table_words.proofs.Prelude.{◌++◌, ◌∷◌, [], ◌∙◌, refl, sym, ap, subst, inl, inr, List, ℕ, set, Names, MatchBool, slice_index}
use Rattle.map_table.proofs.Prelude.{Put, Double, TableView, Move, HasGone, HaveGone, IsSomeInside, StandStill, AreSightings, WriterView, as_holder}
use Rattle.table_words.proofs.Steps.{nothing_named}
use Rattle.map_table.proofs.Doubled.{has_gone, move_ended, move_facts, move_went, move_settles, moved_inside, moves_only, still_again, writer_may}
use Rattle.map_table.proofs.Going.{went_seated}
use Rattle.map_table.proofs.Keeping.{only_scans_quiet}
use Rattle.map_table.proofs.Linking.{fits_still, works}
use Rattle.map_table.proofs.Seen.{sightings_doubled}
use Rattle.map_table.proofs.writer.Writer.move_to.Goals as goal

pub all_passed-requires-clause-seen : goal.all_passed-requires-clause-seen
all_passed-requires-clause-seen c =
    let i = c.self.invariant in
    subst (λ (z : List ℕ). AreSightings c.double_word.new.seat.me.0 z c.self.inside.seen.items) (sym c.as_slice-unlinked.ensures.value)
    (sightings_doubled c.self.inside.seat.me.0 c.double_word.new.seat.me.0 c.args.from c.args.to _ c.self.inside.unlinked.items c.self.inside.seen.items
    c.double_word.ensures.step i.4)

pub put_word-requires-clause-settles : goal.put_word-requires-clause-settles
put_word-requires-clause-settles c =
    let s = c.all_passed.ensures.steps in
    move_settles c.args.table.now.shape.readers c.args.from c.args.to c.args.to _ c.self.inside.seat.me.0 c.double_word.new.seat.me.0
    c.all_passed.new.seat.me.0 s.0 s.1 c.double_word.ensures.step s.2 (inl refl)

pub put_word-requires-2-clause-settles : goal.put_word-requires-2-clause-settles
put_word-requires-2-clause-settles c =
    let s = c.all_passed.ensures.steps in
    let gone = subst (λ b. MatchBool b (HaveGone c.args.table.now.shape.readers s.0) (IsSomeInside c.args.table.now.shape.readers s.0))
    c.if-not-all_passed.false s.3 in
    move_settles c.args.table.now.shape.readers c.args.from c.args.to c.args.from _ c.self.inside.seat.me.0 c.double_word.new.seat.me.0
    c.all_passed.new.seat.me.0 s.0 s.1 c.double_word.ensures.step s.2 (inr (refl, gone))

pub invariant_of-self : goal.invariant_of-self
invariant_of-self c =
    let i = c.self.invariant in
    let v = c.self.inside.seat.me.0 in
    let u = c.double_word.new.seat.me.0 in
    let x = c.all_passed.new.seat.me.0 in
    let w = c.put_word.new.seat.me.0 in
    let k = c.args.table.now.shape in
    let shape = ap (λ (w : WriterView). w.table.shape) c.self.view_is ∙ ap (λ (t : TableView). t.shape) c.requires.table in
    let may = writer_may k c.args.self.now v c.args.from c.args.to (ap (λ (z : WriterView). z.view) c.self.view_is) c.requires.may in
    let a = subst (λ (z : List ℕ). AreSightings x z c.all_passed.new.seen.items) c.as_slice-unlinked.ensures.value c.all_passed.ensures.seen in
    let s = c.all_passed.ensures.steps in
    let p = c.put_word.ensures in
    let d = c.double_word.ensures in
    let e = move_ended k v u x w c.self.inside.ways.items c.put_word.new.ways.items c.self.inside.free.items c.self.inside.unlinked.items
    c.all_passed.new.seen.items c.args.from c.args.to c.args.to s.0 i.0 i.5 shape c.requires.from c.requires.to may d.step s.1 s.2 a p.step (inl refl)
    (p.ways ∙ ap (λ ws. set ws c.args.to 0) d.ways) in (
      e.0,
      p.held ∙ (c.all_passed.ensures.held ∙ (d.held ∙ i.1)),
      fits_still v w _ _ e.4 refl i.2,
      fits_still v w _ _ e.4 refl i.3,
      e.1,
      e.2,
      e.3,
      went_seated x w _ _ p.step (went_seated u x _ _ s.2 (went_seated v u _ _ d.step i.7)),
    )

pub returns-then-not-all_passed-clause-steps : goal.returns-then-not-all_passed-clause-steps
returns-then-not-all_passed-clause-steps c =
    let s = c.all_passed.ensures.steps in
    let v = c.self.inside.seat.me.0 in
    let w = c.put_word.new.seat.me.0 in
    let word = slice_index c.self.inside.ways.items c.args.from in
    let ms : List Move = Put c.args.to 0 ∷ (s.0 ++ Double c.args.from c.args.to word ∷ []) in
    let inside = subst (λ b. MatchBool b (HaveGone c.args.table.now.shape.readers s.0) (IsSomeInside c.args.table.now.shape.readers s.0))
    c.if-not-all_passed.true s.3 in (
      ms,
      moves_only 0 c.args.table.now.shape.readers s.0 c.args.self.now.view.mine c.args.from c.args.to c.args.to word s.1,
      works _ _ v w _ ms (ap as_holder c.self.view_is) (c.put_word.ensures.table ∙ (c.all_passed.ensures.table ∙ c.double_word.ensures.table))
          (move_went v c.double_word.new.seat.me.0 c.all_passed.new.seat.me.0 w c.args.from c.args.to c.args.to word s.0 c.double_word.ensures.step s.2
          c.put_word.ensures.step),
      λ no. moved_inside c.args.table.now.shape.readers c.args.from c.args.to c.args.to word s.0 inside,
    )

pub invariant_of-self-2 : goal.invariant_of-self-2
invariant_of-self-2 c =
    let i = c.self.invariant in
    let v = c.self.inside.seat.me.0 in
    let u = c.double_word.new.seat.me.0 in
    let x = c.all_passed.new.seat.me.0 in
    let w = c.put_word-2.new.seat.me.0 in
    let k = c.args.table.now.shape in
    let shape = ap (λ (w : WriterView). w.table.shape) c.self.view_is ∙ ap (λ (t : TableView). t.shape) c.requires.table in
    let may = writer_may k c.args.self.now v c.args.from c.args.to (ap (λ (z : WriterView). z.view) c.self.view_is) c.requires.may in
    let a = subst (λ (z : List ℕ). AreSightings x z c.all_passed.new.seen.items) c.as_slice-unlinked.ensures.value c.all_passed.ensures.seen in
    let s = c.all_passed.ensures.steps in
    let p = c.put_word-2.ensures in
    let d = c.double_word.ensures in
    let e = move_ended k v u x w c.self.inside.ways.items c.put_word-2.new.ways.items c.self.inside.free.items c.self.inside.unlinked.items
    c.all_passed.new.seen.items c.args.from c.args.to c.args.from s.0 i.0 i.5 shape c.requires.from c.requires.to may d.step s.1 s.2 a p.step (inr refl)
    (p.ways ∙ ap (λ ws. set ws c.args.from 0) d.ways) in (
      e.0,
      p.held ∙ (c.all_passed.ensures.held ∙ (d.held ∙ i.1)),
      fits_still v w _ _ e.4 refl i.2,
      fits_still v w _ _ e.4 refl i.3,
      e.1,
      e.2,
      e.3,
      went_seated x w _ _ p.step (went_seated u x _ _ s.2 (went_seated v u _ _ d.step i.7)),
    )

pub returns-clause-steps : goal.returns-clause-steps
returns-clause-steps c =
    let s = c.all_passed.ensures.steps in
    let v = c.self.inside.seat.me.0 in
    let w = c.put_word-2.new.seat.me.0 in
    let word = slice_index c.self.inside.ways.items c.args.from in
    let ms : List Move = Put c.args.from 0 ∷ (s.0 ++ Double c.args.from c.args.to word ∷ []) in (
      ms,
      moves_only 0 c.args.table.now.shape.readers s.0 c.args.self.now.view.mine c.args.from c.args.to c.args.from word s.1,
      works _ _ v w _ ms (ap as_holder c.self.view_is) (c.put_word-2.ensures.table ∙ (c.all_passed.ensures.table ∙ c.double_word.ensures.table))
          (move_went v c.double_word.new.seat.me.0 c.all_passed.new.seat.me.0 w c.args.from c.args.to c.args.from word s.0 c.double_word.ensures.step s.2
          c.put_word-2.ensures.step),
      λ no. absurd cc,
    )

pub returns-then-not-all_passed-clause-still : goal.returns-then-not-all_passed-clause-still
returns-then-not-all_passed-clause-still c = λ no.
    let i = c.self.invariant in
    let s = c.all_passed.ensures.steps in
    let k = c.args.table.now.shape in
    let v = c.self.inside.seat.me.0 in
    let shape = ap (λ (w : WriterView). w.table.shape) c.self.view_is ∙ ap (λ (t : TableView). t.shape) c.requires.table in
    let may = writer_may k c.args.self.now v c.args.from c.args.to (ap (λ (z : WriterView). z.view) c.self.view_is) c.requires.may in
    let f = move_facts k v c.self.inside.ways.items c.self.inside.free.items c.self.inside.unlinked.items c.args.from c.args.to i.0 shape
    c.requires.from may in
    subst (λ (z : WriterView). StandStill z.view c.put_word.new.seat.me.0) c.self.view_is
    (still_again v c.double_word.new.seat.me.0 c.all_passed.new.seat.me.0 c.put_word.new.seat.me.0 c.args.from c.args.to _ s.0
    (only_scans_quiet 0 k.readers s.0 s.1) f.3 c.double_word.ensures.step s.2 c.put_word.ensures.step)

pub returns-clause-gone : goal.returns-clause-gone
returns-clause-gone c = λ yes.
    let i = c.self.invariant in
    let s = c.all_passed.ensures.steps in
    let k = c.args.table.now.shape in
    let v = c.self.inside.seat.me.0 in
    let shape = ap (λ (w : WriterView). w.table.shape) c.self.view_is ∙ ap (λ (t : TableView). t.shape) c.requires.table in
    let may = writer_may k c.args.self.now v c.args.from c.args.to (ap (λ (z : WriterView). z.view) c.self.view_is) c.requires.may in
    let f = move_facts k v c.self.inside.ways.items c.self.inside.free.items c.self.inside.unlinked.items c.args.from c.args.to i.0 shape
    c.requires.from may in
    subst (λ (z : WriterView). HasGone c.args.from c.args.to z.view c.put_word-2.new.seat.me.0) c.self.view_is
    (has_gone v c.double_word.new.seat.me.0 c.all_passed.new.seat.me.0 c.put_word-2.new.seat.me.0 c.args.from c.args.to _ s.0
    (only_scans_quiet 0 k.readers s.0 s.1) f.3 (λ none. nothing_named may.element (subst (λ z. Names z may.element) none may.names)) f.2
    c.double_word.ensures.step s.2 c.put_word-2.ensures.step)
