use Rattle.scalar_domain.proofs.Carries.{high_within, low_ones}
use Rattle.scalar_domain.proofs.scalar.Scalar.with_low.Goals as goal

pub returns-clause-sound : goal.returns-clause-sound
returns-clause-sound c = λ x p h k. c.with_bits.ensures.sound x h (high_within x _ p (c.possible_ones.ensures _ k)) (low_ones c.args.low.must x k.ones)
