use Rattle.table_words.proofs.Prelude.{◌∙◌}
use Rattle.map_table.proofs.Filling.{went_me, went_shape}
use Rattle.map_table.proofs.Passing.{looked_first, looked_outside, looked_again, looked_other, looked_inside}
use Rattle.map_table.proofs.sightings.has_passed.Goals as goal

pub returns-then-first-eq0-clause-steps : goal.returns-then-first-eq0-clause-steps
returns-then-first-eq0-clause-steps c =
    looked_outside c.args.reader c.look_at-first.result c.args.seat.now.me.0 c.look_at-first.new.seat.me.0 c.look_at-first.ensures.step c.if-first-eq0.true

pub loop-init : goal.loop-init
loop-init c = (
  c.look_at-first.ensures.table,
  c.look_at-first.ensures.held,
  c.look_at-first.ensures.seen,
  looked_first c.args.reader c.look_at-first.result c.args.seat.now.me.0 c.look_at-first.new.seat.me.0 c.look_at-first.ensures.step c.if-first-eq0.false,
)

pub look_at-requires-clause-table : goal.look_at-requires-clause-table
look_at-requires-clause-table c =
    let i = c.loop.invariant in
    (i.0 ∙ c.requires.table.0, went_shape c.args.seat.now.me.0 c.loop.seat.me.0 _ i.3.2 ∙ c.requires.table.1)

pub look_at-requires-clause-writer : goal.look_at-requires-clause-writer
look_at-requires-clause-writer c = went_me c.args.seat.now.me.0 c.loop.seat.me.0 _ c.loop.invariant.3.2 ∙ c.requires.writer

pub look_at-requires-clause-seen : goal.look_at-requires-clause-seen
look_at-requires-clause-seen c = c.loop.invariant.2

pub returns-then-look_at-first-clause-table : goal.returns-then-look_at-first-clause-table
returns-then-look_at-first-clause-table c = c.look_at.ensures.table ∙ c.loop.invariant.0

pub returns-then-look_at-first-clause-held : goal.returns-then-look_at-first-clause-held
returns-then-look_at-first-clause-held c = c.look_at.ensures.held ∙ c.loop.invariant.1

pub returns-then-look_at-first-clause-steps : goal.returns-then-look_at-first-clause-steps
returns-then-look_at-first-clause-steps c =
    looked_other c.args.reader c.look_at-first.result c.look_at.result c.args.seat.now.me.0 c.loop.seat.me.0 c.look_at.new.seat.me.0
    c.loop.invariant.3 c.look_at.ensures.step c.if-look_at-first.true

pub loop-preserved : goal.loop-preserved
loop-preserved c =
    let i = c.loop.invariant in (
      c.look_at.ensures.table ∙ i.0,
      c.look_at.ensures.held ∙ i.1,
      c.look_at.ensures.seen,
      looked_again c.args.reader c.look_at-first.result c.look_at.result c.args.seat.now.me.0 c.loop.seat.me.0 c.look_at.new.seat.me.0 i.3
          c.look_at.ensures.step,
    )

pub returns-clause-table : goal.returns-clause-table
returns-clause-table c = c.loop.invariant.0

pub returns-clause-held : goal.returns-clause-held
returns-clause-held c = c.loop.invariant.1

pub returns-clause-seen : goal.returns-clause-seen
returns-clause-seen c = c.loop.invariant.2

pub returns-clause-steps : goal.returns-clause-steps
returns-clause-steps c = looked_inside c.args.reader c.look_at-first.result c.args.seat.now.me.0 c.loop.seat.me.0 c.loop.invariant.3
