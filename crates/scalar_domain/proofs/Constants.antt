-- What the operations give of constants is as narrow as it has to be.
use Rattle.bpf_model.proofs.Prelude.{◌≡◌, ℕ, ◌+◌, ◌-◌, ◌*◌, ◌%◌, ◌^◌, ◌<◌, sym, ◌∙◌, ap, subst, arith, bit_and, and_self, and_le_r, mod-eq_of_lt}
use Rattle.scalar_domain.proofs.Prelude.{IsConstant, IsNoWider, Within, Masks, ShiftsLeft}
use Rattle.scalar_domain.specs.declared.scalar.Scalar.{Scalar}
use Rattle.scalar_domain.specs.Precision.{Adds, Subtracts}
use Rattle.scalar_domain.proofs.Bits.{and-within_r}
use Rattle.scalar_domain.proofs.Multiples.{sum_low, low_zero}
use Rattle.scalar_domain.proofs.Shifts.{low_zeros}

pub sum_of_constants : (a b r : Scalar) (u v : ℕ) → IsConstant a u → IsConstant b v → IsConstant r ((u + v) % 2 ^ 64)
    → r.may ≡ (u + v) % 2 ^ 64 → r.must ≡ (u + v) % 2 ^ 64 → Adds a b r
sum_of_constants a b r u v c d e f g = record {
  least = λ l. let h : (u + v) % 2 ^ 64 ≡ u + v = mod-eq_of_lt (omega (arith, c.greatest, d.greatest, l)) in omega (arith, h, c.least, d.least, e.least);
  greatest = λ l. let h : (u + v) % 2 ^ 64 ≡ u + v = mod-eq_of_lt (omega (arith, c.greatest, d.greatest, l)) in omega
      (arith, h, c.greatest, d.greatest, e.greatest);
  zeros = λ t l i j. ap (λ n. n % 2 ^ t) f ∙ sum_low u v t l (low_zero u a.may t c.zeros i) (low_zero v b.may t d.zeros j);
  low = λ t l i j. ap (λ n. n % 2 ^ t) (f ∙ sym g);
}

pub difference_of_constants : (a b r : Scalar) (u v : ℕ) → u < 2 ^ 64 → v < 2 ^ 64 → IsConstant a u → IsConstant b v →
    IsConstant r ((u + (2 ^ 64 - v)) % 2 ^ 64)
    → r.may ≡ (u + (2 ^ 64 - v)) % 2 ^ 64 → r.must ≡ (u + (2 ^ 64 - v)) % 2 ^ 64 → Subtracts a b r
difference_of_constants a b r u v o p c d e f g = record {
  least = λ l. omega (arith, o, p, l, c.least, d.greatest, e.least);
  greatest = λ l. omega (arith, o, p, l, c.least, c.greatest, d.least, d.greatest, e.greatest);
  low = λ t l i j. ap (λ n. n % 2 ^ t) (f ∙ sym g);
}

pub mask_of_constants : (r : Scalar) (u v : ℕ) → IsConstant r (bit_and u v) → r.may ≡ bit_and u v → Masks v r
mask_of_constants r u v e f = record {
  greatest = omega (arith, e.greatest, and_le_r u v);
  zeros = subst (λ m. Within m v) (sym f) (and-within_r v u v (and_self v));
}

pub shl_of_constants : (a r : Scalar) (u k : ℕ) → k < 64 → IsConstant a u → IsConstant r ((u * 2 ^ k) % 2 ^ 64) →
    r.may ≡ (u * 2 ^ k) % 2 ^ 64 → ShiftsLeft k a r
shl_of_constants a r u k l c e f = record {
  least = λ p.
      let i : a.greatest * 2 ^ k ≡ u * 2 ^ k = ap (λ n. n * 2 ^ k) c.greatest in
      let j : a.least * 2 ^ k ≡ u * 2 ^ k = ap (λ n. n * 2 ^ k) c.least in
      let g : (u * 2 ^ k) % 2 ^ 64 ≡ u * 2 ^ k = mod-eq_of_lt (omega (arith, i, p)) in
      omega (arith, g, j, e.least);
  greatest = λ p.
      let i : a.greatest * 2 ^ k ≡ u * 2 ^ k = ap (λ n. n * 2 ^ k) c.greatest in
      let g : (u * 2 ^ k) % 2 ^ 64 ≡ u * 2 ^ k = mod-eq_of_lt (omega (arith, i, p)) in
      omega (arith, g, i, e.greatest);
  zeros = ap (λ n. n % 2 ^ k) f ∙ low_zeros u k l;
}

pub move_of_constants : (b r : Scalar) (v : ℕ) → IsConstant b v → IsConstant r v → r.may ≡ v → r.must ≡ v → IsNoWider r b
move_of_constants b r v d e f g = record {
  least = omega (arith, d.least, e.least);
  greatest = omega (arith, d.greatest, e.greatest);
  zeros = subst (λ m. Within m b.may) (sym f) d.zeros;
  ones = subst (λ m. Within b.must m) (sym g) d.ones;
}
