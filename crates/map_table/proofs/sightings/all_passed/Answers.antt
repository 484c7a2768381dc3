use Rattle.table_words.proofs.Prelude.{rules, ◌≡◌, ◌≤◌, ◌<◌, ◌∙◌, [], refl, subst, arith}
use Rattle.map_table.proofs.Filling.{went_me, went_shape}
use Rattle.map_table.proofs.Going.{went_none}
use Rattle.map_table.proofs.Passing.{FirstPassed, passed_more, passed_none, passes_true, passes_false}
use Rattle.map_table.proofs.sightings.all_passed.Goals as goal

pub loop-reader-init : goal.loop-reader-init
loop-reader-init c = (
  refl,
  refl,
  c.requires.seen,
  ([], tt, went_none c.args.seat.now.me.0 c.requires.known, λ r some few. absurd (omega (arith, some, few))),
)

pub has_passed-requires-clause-table : goal.has_passed-requires-clause-table
has_passed-requires-clause-table c =
    let i = c.loop-reader.invariant in
    (i.0 ∙ c.requires.table.0, went_shape c.args.seat.now.me.0 c.loop-reader.seat.me.0 _ i.3.2 ∙ c.requires.table.1)

pub has_passed-requires-clause-writer : goal.has_passed-requires-clause-writer
has_passed-requires-clause-writer c = went_me c.args.seat.now.me.0 c.loop-reader.seat.me.0 _ c.loop-reader.invariant.3.2 ∙ c.requires.writer

pub has_passed-requires-clause-seen : goal.has_passed-requires-clause-seen
has_passed-requires-clause-seen c = c.loop-reader.invariant.2

pub returns-then-not-has_passed-clause-table : goal.returns-then-not-has_passed-clause-table
returns-then-not-has_passed-clause-table c = c.has_passed.ensures.table ∙ c.loop-reader.invariant.0

pub returns-then-not-has_passed-clause-held : goal.returns-then-not-has_passed-clause-held
returns-then-not-has_passed-clause-held c = c.has_passed.ensures.held ∙ c.loop-reader.invariant.1

pub returns-then-not-has_passed-clause-steps : goal.returns-then-not-has_passed-clause-steps
returns-then-not-has_passed-clause-steps c =
    let low : c.loop-reader.reader < c.args.table.now.shape.readers = search rules in
    passed_none c.loop-reader.reader c.args.seat.now.me.0 c.loop-reader.seat.me.0 c.has_passed.new.seat.me.0 c.loop-reader.invariant.3
    c.args.table.now.shape.readers low
    (passes_false c.has_passed.result c.loop-reader.reader c.loop-reader.seat.me.0 c.has_passed.new.seat.me.0 c.has_passed.ensures.steps
    c.if-not-has_passed.true)

pub loop-reader-preserved : goal.loop-reader-preserved
loop-reader-preserved c =
    let i = c.loop-reader.invariant in (
      c.has_passed.ensures.table ∙ i.0,
      c.has_passed.ensures.held ∙ i.1,
      c.has_passed.ensures.seen,
      passed_more c.loop-reader.reader c.args.seat.now.me.0 c.loop-reader.seat.me.0 c.has_passed.new.seat.me.0 i.3
          (passes_true c.has_passed.result c.loop-reader.reader c.loop-reader.seat.me.0 c.has_passed.new.seat.me.0 c.has_passed.ensures.steps
          c.if-not-has_passed.false),
    )

pub returns-clause-table : goal.returns-clause-table
returns-clause-table c = c.loop-reader.invariant.0

pub returns-clause-held : goal.returns-clause-held
returns-clause-held c = c.loop-reader.invariant.1

pub returns-clause-seen : goal.returns-clause-seen
returns-clause-seen c = c.loop-reader.invariant.2

pub returns-clause-steps : goal.returns-clause-steps
returns-clause-steps c =
    let all : c.args.table.now.shape.readers ≤ c.loop-reader.reader = search rules in
    let no_more : c.loop-reader.reader ≤ c.args.table.now.shape.readers = search rules in
    let same : c.loop-reader.reader ≡ c.args.table.now.shape.readers = omega (arith, all, no_more) in
    subst (λ z. FirstPassed z c.args.seat.now.me.0 c.loop-reader.seat.me.0) same c.loop-reader.invariant.3
