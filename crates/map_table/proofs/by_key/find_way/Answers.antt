use Rattle.table_words.proofs.Prelude.{◌*◌, ◌++◌, refl, sym, ap, ◌∙◌}
use Rattle.map_table.proofs.Prelude.{TableShape, layout_of, first_bucket, second_bucket}
use Rattle.map_table.proofs.Going.{went_known, went_then}
use Rattle.map_table.proofs.Filling.{went_me, went_shape}
use Rattle.map_table.proofs.Keeping.{searches_quiet, same_word}
use Rattle.map_table.proofs.Lookups.{only_append}
use Rattle.map_table.proofs.Peeking.{under_before, in_neither}
use Rattle.map_table.proofs.by_key.find_way.Goals as goal

pub find_in-requires-2-clause-words : goal.find_in-requires-2-clause-words
find_in-requires-2-clause-words c = λ way l.
    let k = c.args.table.now.shape in
    let s = c.find_in.ensures.steps in
    c.requires.words way l ∙
    sym (same_word c.args.seat.now.me.0 c.find_in.new.seat.me.0 s.0 (searches_quiet (layout_of k) 0 s.0 s.1) s.2 way)

pub returns-clause-steps : goal.returns-clause-steps
returns-clause-steps c =
    let k = c.args.table.now.shape in
    let s = c.find_in.ensures.steps in
    let o = c.find_in-2.ensures.steps in
    (o.0 ++ s.0, only_append k o.0 s.0 o.1 s.1, went_then c.args.seat.now.me.0 c.find_in.new.seat.me.0 c.find_in-2.new.seat.me.0 s.0 o.0 s.2 o.2)

pub returns-clause-none : goal.returns-clause-none
returns-clause-none c = λ none way under.
    let k = c.args.table.now.shape in
    let s = c.find_in.ensures.steps in
    let o = c.find_in-2.ensures.steps in
    let u = c.args.seat.now.me.0 in
    let v = c.find_in.new.seat.me.0 in
    let w = c.find_in-2.new.seat.me.0 in
    let same = c.shape.ensures.shape in
    let e = c.candidates_of-candidates.ensures in
    let shape = went_shape u v _ s.2 ∙ c.requires.table.1 in
    let me = went_me u v _ s.2 ∙ c.requires.writer in
    let known = went_known u v _ s.2 in
    in_neither k w c.args.key.now c.candidates_of-candidates.result.first c.candidates_of-candidates.result.second way
    (went_shape v w _ o.2 ∙ shape) (went_known v w _ o.2)
    (e.first ∙ ap (λ (z : TableShape). first_bucket z c.args.key.now * 8) same)
    (e.second ∙ ap (λ (z : TableShape). second_bucket z c.args.key.now * 8) same)
    (λ x l m under_x. c.in_default.ensures.none refl x l m (under_before k v w o.0 shape me known o.1 o.2 c.args.key.now x under_x))
    (λ x l m under_x. c.find_in-2.ensures.none none x l m under_x) under
