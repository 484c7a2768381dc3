use Rattle.scalar_domain.proofs.Bits.{within-both}
use Rattle.scalar_domain.proofs.scalar.Scalar.possible_ones.Goals as goal

pub returns : goal.returns
returns c = λ n h. within-both n _ _ h.zeros (c.ones_up_to.ensures n h.greatest)
