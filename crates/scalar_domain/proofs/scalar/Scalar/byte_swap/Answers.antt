use Rattle.scalar_domain.proofs.Swaps.{reordered_lt}
use Rattle.scalar_domain.proofs.scalar.Scalar.byte_swap.Goals as goal

pub returns-in_default-Eight-clause-sound : goal.returns-in_default-Eight-clause-sound
returns-in_default-Eight-clause-sound c = λ x p h. c.unknown.ensures.sound _ (reordered_lt c.args.order c.args.width x)
