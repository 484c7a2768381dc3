use Rattle.scalar_domain.proofs.Words.{moved_signed_lt}
use Rattle.scalar_domain.proofs.scalar.Scalar.move_signed.Goals as goal

pub returns-in_default-clause-sound : goal.returns-in_default-clause-sound
returns-in_default-clause-sound c = λ x p h. c.unknown.ensures.sound _ (moved_signed_lt c.args.extension x)
