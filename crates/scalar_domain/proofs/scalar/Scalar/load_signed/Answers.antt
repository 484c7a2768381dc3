use Rattle.scalar_domain.proofs.Words.{loaded_signed_lt}
use Rattle.scalar_domain.proofs.scalar.Scalar.load_signed.Goals as goal

pub returns : goal.returns
returns c = record { sound = λ n. c.unknown.ensures.sound _ (loaded_signed_lt c.args._width n) }
