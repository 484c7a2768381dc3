use Rattle.table_words.proofs.Prelude.{rules, ◌≡◌, ◌≤◌, ◌++◌, ◌∙◌, [], refl, subst, arith}
use Rattle.map_table.proofs.Doubled.{NoneYet, words_later, settled_later, nth_both, among_none, among_all, none_more}
use Rattle.map_table.proofs.Filling.{went_me, went_shape}
use Rattle.map_table.proofs.Going.{went_none, went_known, went_then}
use Rattle.map_table.proofs.Lookups.{only_append}
use Rattle.map_table.proofs.moving.find_move.Goals as goal

pub loop-at-init : goal.loop-at-init
loop-at-init c = (
  refl,
  refl,
  ([], tt, went_none c.args.seat.now.me.0 c.requires.known),
  λ way element among names. absurd (among_none c.args.candidates.first c.args.candidates.second way among),
)

pub second_way-requires-clause-table : goal.second_way-requires-clause-table
second_way-requires-clause-table c =
    let i = c.loop-at.invariant in
    (i.0 ∙ c.requires.table.0, went_shape c.args.seat.now.me.0 c.loop-at.seat.me.0 _ i.2.2 ∙ c.requires.table.1)

pub second_way-requires-clause-writer : goal.second_way-requires-clause-writer
second_way-requires-clause-writer c = went_me c.args.seat.now.me.0 c.loop-at.seat.me.0 _ c.loop-at.invariant.2.2 ∙ c.requires.writer

pub second_way-requires-clause-known : goal.second_way-requires-clause-known
second_way-requires-clause-known c = went_known c.args.seat.now.me.0 c.loop-at.seat.me.0 _ c.loop-at.invariant.2.2

pub second_way-requires-clause-settled : goal.second_way-requires-clause-settled
second_way-requires-clause-settled c =
    let i = c.loop-at.invariant.2 in
    settled_later c.args.table.now.shape c.args.seat.now.me.0 c.loop-at.seat.me.0 i.0 c.requires.table.1 c.requires.writer c.requires.known i.1 i.2
    c.args.ways.now c.requires.words c.requires.settled

pub second_way-requires-clause-words : goal.second_way-requires-clause-words
second_way-requires-clause-words c =
    let i = c.loop-at.invariant.2 in
    words_later c.args.table.now.shape c.args.seat.now.me.0 c.loop-at.seat.me.0 i.0 c.requires.table.1 c.requires.writer c.requires.known i.1 i.2
    c.args.ways.now c.requires.words

pub second_way-requires-clause-some : goal.second_way-requires-clause-some
second_way-requires-clause-some c =
    c.requires.full c.nth_way-way.result (nth_both c.args.candidates.first c.args.candidates.second c.loop-at.at c.nth_way-way.result c.loop-at-test.true
    c.nth_way-way.ensures)

pub returns-in-Some-clause-table : goal.returns-in-Some-clause-table
returns-in-Some-clause-table c = c.second_way.ensures.table ∙ c.loop-at.invariant.0

pub returns-in-Some-clause-held : goal.returns-in-Some-clause-held
returns-in-Some-clause-held c = c.second_way.ensures.held ∙ c.loop-at.invariant.1

pub returns-in-Some-clause-steps : goal.returns-in-Some-clause-steps
returns-in-Some-clause-steps c =
    let i = c.loop-at.invariant.2 in
    let s = c.second_way.ensures.steps in (
      s.0 ++ i.0,
      only_append c.args.table.now.shape s.0 i.0 s.1 i.1,
      went_then c.args.seat.now.me.0 c.loop-at.seat.me.0 c.second_way.new.seat.me.0 i.0 s.0 i.2 s.2,
    )

pub returns-in-Some-clause-some : goal.returns-in-Some-clause-some
returns-in-Some-clause-some c = (
  nth_both c.args.candidates.first c.args.candidates.second c.loop-at.at c.nth_way-way.result c.loop-at-test.true c.nth_way-way.ensures,
  c.in-Some.ensures.some.0,
  c.in-Some.ensures.some.1,
)

pub loop-at-preserved : goal.loop-at-preserved
loop-at-preserved c =
    let i = c.loop-at.invariant in
    let k = c.args.table.now.shape in
    let s = c.second_way.ensures.steps in
    let u = c.args.seat.now.me.0 in
    let v = c.loop-at.seat.me.0 in
    let w = c.second_way.new.seat.me.0 in (
      c.second_way.ensures.table ∙ i.0,
      c.second_way.ensures.held ∙ i.1,
      (s.0 ++ i.2.0, only_append k s.0 i.2.0 s.1 i.2.1, went_then u v w i.2.0 s.0 i.2.2 s.2),
      none_more k v w s.0 (went_shape u v _ i.2.2 ∙ c.requires.table.1) (went_me u v _ i.2.2 ∙ c.requires.writer) (went_known u v _ i.2.2) s.1 s.2
          c.args.ways.now c.args.candidates.first c.args.candidates.second c.loop-at.at c.nth_way-way.result c.nth_way-way.ensures i.3
          (c.in_default.ensures.none refl),
    )

pub returns-clause-table : goal.returns-clause-table
returns-clause-table c = c.loop-at.invariant.0

pub returns-clause-held : goal.returns-clause-held
returns-clause-held c = c.loop-at.invariant.1

pub returns-clause-steps : goal.returns-clause-steps
returns-clause-steps c = c.loop-at.invariant.2

pub returns-clause-none : goal.returns-clause-none
returns-clause-none c = λ none way element both names.
    let all : 16 ≤ c.loop-at.at = search rules in
    let no_more = c.loop-at.auto.at-end in
    let same : c.loop-at.at ≡ 16 = omega (arith, all, no_more) in
    subst (λ n. NoneYet c.args.table.now.shape c.args.ways.now c.args.candidates.first c.args.candidates.second n c.loop-at.seat.me.0) same
    c.loop-at.invariant.3 way element (among_all c.args.candidates.first c.args.candidates.second way both) names
