use Rattle.bpf_model.proofs.Prelude.{bit_xor, and_zero_l}
use Rattle.scalar_domain.proofs.Bits.{within-xor}
use Rattle.scalar_domain.proofs.scalar.Scalar.xor.Goals as goal

pub returns : goal.returns
returns c = record {
  sound = λ x y h k. c.from_bits.ensures.sound _
      (within-xor x y _ _ (c.possible_ones.ensures x h) (c.possible_ones-2.ensures y k)) (and_zero_l (bit_xor x y));
}
