use Rattle.bpf_model.proofs.Prelude.{◌≤◌, arith, bit_and, bit_or}
use Rattle.scalar_domain.proofs.Prelude.{Within}
use Rattle.std.proofs.lemmas.Nat.{le_or_l, le_or_r}
use Rattle.scalar_domain.proofs.Bits.{within-or, within_le, and-within_l}
use Rattle.scalar_domain.proofs.scalar.Scalar.or.Goals as goal

pub returns : goal.returns
returns c = record {
  sound = λ x y h k.
      let z = within-or x y _ _ (c.possible_ones.ensures x h) (c.possible_ones-2.ensures y k) in
      let b = bit_or c.possible_ones.result c.possible_ones-2.result in
      let m = bit_or c.args.self.must c.args.other.must in
      let o : Within (bit_and m b) (bit_or x y) = and-within_l (bit_or x y) m b (within-or _ _ x y h.ones k.ones) in
      c.new.ensures.sound (bit_or x y)
      (let l : c.max-2.result ≤ bit_or x y = omega (
        arith,
        le_or_l x y,
        le_or_r x y,
        h.least,
        k.least,
        within_le _ _ o,
        c.max.ensures,
        c.max-2.ensures,
      ) in omega (arith, l, c.min.ensures))
      (within_le _ _ z) z o;
}
