use Rattle.bpf_model.proofs.Prelude.{arith}
use Rattle.scalar_domain.proofs.Bits.{within-trans}
use Rattle.scalar_domain.proofs.scalar.Scalar.mask.Goals as goal

pub returns-clause-precise : goal.returns-clause-precise
returns-clause-precise c = λ k i. record {
  greatest = omega (arith, c.and.ensures.greatest, c.with_known_bits.ensures.greatest, i.greatest);
  zeros = within-trans c.and.result.may c.with_known_bits.result.may k c.and.ensures.zeros (c.with_known_bits.ensures.constant k i);
}
