use Rattle.host_programs.proofs.Shapes.{next-shape, all-shapes}
use Rattle.host_programs.proofs.opening.bad_shape.Goals as goal

pub loop-number-preserved : goal.loop-number-preserved
loop-number-preserved c = next-shape c.args.shapes.now c.loop-number.number _ c.loop-number.invariant (c.is_shape.ensures.shape.0 c.if-not-is_shape.false)

pub returns-clause-none : goal.returns-clause-none
returns-clause-none c = all-shapes c.args.shapes.now c.loop-number.number c.loop-number.invariant c.loop-number-test.false
