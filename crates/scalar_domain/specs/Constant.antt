-- One number alone.
use Rattle.std.specs.Prelude.{◌≡◌, ℕ, ◌≤◌}
use Rattle.std.proofs.Common.{sym, ap, ◌∙◌, subst, arith}
use Rattle.std.proofs.Math.Bridge.{le_prop}
use Rattle.std.proofs.Math.Nat.{ℕ_set}
use Rattle.std.specs.Int.Bits.{and_self}
use Rattle.scalar_domain.specs.declared.scalar.Scalar.{Scalar}
use Rattle.scalar_domain.specs.Mask.{Within}

pub le_self : (n : ℕ) → n ≤ n
le_self n = omega arith

-- the set of this number alone
abbrev pub constant_of : ℕ → Scalar
constant_of n = record {
  least = n;
  greatest = n;
  may = n;
  must = n;
  ordered = le_self n;
  consistent = and_self n;
}

made : (l g m k : ℕ) → l ≤ g → Within k m → Scalar
made l g m k o c = record {
  least = l;
  greatest = g;
  may = m;
  must = k;
  ordered = o;
  consistent = c;
}

made_is : (n l g m k : ℕ) → l ≡ n → g ≡ n → m ≡ n → k ≡ n → (o : l ≤ g) (c : Within k m)
    → made l g m k o c ≡ constant_of n
unfolding made
made_is n l g m k p q r t =
    subst (λ l. (o : l ≤ g) (c : Within k m) → made l g m k o c ≡ constant_of n) (sym p)
    (subst (λ g. (o : n ≤ g) (c : Within k m) → made n g m k o c ≡ constant_of n) (sym q)
    (subst (λ m. (o : n ≤ n) (c : Within k m) → made n n m k o c ≡ constant_of n) (sym r)
    (subst (λ k. (o : n ≤ n) (c : Within k n) → made n n n k o c ≡ constant_of n) (sym t)
    (λ o c. ap (λ o. made n n n n o c) (le_prop o (le_self n))
    ∙ ap (made n n n n (le_self n)) (ℕ_set _ _ c (and_self n))))))

-- a set with these bounds and masks is that of the number alone
pub constant_is : (s : Scalar) (n : ℕ) → s.least ≡ n → s.greatest ≡ n → s.may ≡ n → s.must ≡ n
    → s ≡ constant_of n
unfolding made
constant_is s n p q r t = made_is n s.least s.greatest s.may s.must p q r t s.ordered s.consistent
