use Rattle.bpf_model.proofs.Prelude.{◌*◌, ◌%◌, ◌^◌, ◌<◌, ◌∙◌, ap, arith, mul-le-mul_right}
use Rattle.scalar_domain.proofs.Bits.{within-shl}
use Rattle.scalar_domain.proofs.Shifts.{shl_mono, fits_shifted, shifted_fits, shifted, low_zeros}
use Rattle.scalar_domain.proofs.scalar.Scalar.shift_left.Goals as goal

pub new-requires-clause-ordered : goal.new-requires-clause-ordered
new-requires-clause-ordered c =
    let s = c.args.self in
    shl_mono s.least s.greatest c.args.by s.ordered (fits_shifted s.greatest c.args.by c.requires c.if-self-by.true)

pub new-requires-clause-consistent : goal.new-requires-clause-consistent
new-requires-clause-consistent c = within-shl c.args.self.must c.args.self.may c.args.by c.args.self.consistent

pub returns-then-self-by-clause-sound : goal.returns-then-self-by-clause-sound
returns-then-self-by-clause-sound c = λ x p h.
    let s = c.args.self in
    let l = fits_shifted s.greatest c.args.by c.requires c.if-self-by.true in
    let q : x * 2 ^ c.args.by < 2 ^ 64 = omega (arith, mul-le-mul_right (2 ^ c.args.by) h.greatest, l) in
    c.new.ensures.sound _ (shl_mono s.least x c.args.by h.least q) (shl_mono x s.greatest c.args.by h.greatest l)
    (within-shl x s.may c.args.by h.zeros) (within-shl s.must x c.args.by h.ones)

pub returns-then-self-by-clause-precise : goal.returns-then-self-by-clause-precise
returns-then-self-by-clause-precise c =
    let s = c.args.self in
    record {
      least = λ l. omega (arith, c.new.ensures.least, shifted s.least s.greatest c.args.by s.ordered l);
      greatest = λ l. omega (arith, c.new.ensures.greatest, shifted s.greatest s.greatest c.args.by (omega arith) l);
      zeros = ap (λ m. m % 2 ^ c.args.by) c.new.ensures.zeros ∙ low_zeros s.may c.args.by c.requires;
    }

pub from_bits-requires : goal.from_bits-requires
from_bits-requires c = within-shl c.args.self.must c.args.self.may c.args.by c.args.self.consistent

pub returns-else-self-by-clause-sound : goal.returns-else-self-by-clause-sound
returns-else-self-by-clause-sound c = λ x p h. c.from_bits.ensures.sound _ (within-shl x _ _ h.zeros) (within-shl _ x _ h.ones)

pub returns-else-self-by-clause-precise : goal.returns-else-self-by-clause-precise
returns-else-self-by-clause-precise c = record {
  least = λ l. let q = shifted_fits c.args.self.greatest c.args.by l in absurd (omega (arith, q, c.if-self-by.false));
  greatest = λ l. let q = shifted_fits c.args.self.greatest c.args.by l in absurd (omega (arith, q, c.if-self-by.false));
  zeros = ap (λ m. m % 2 ^ c.args.by) c.from_bits.ensures.zeros ∙ low_zeros c.args.self.may c.args.by c.requires;
}
