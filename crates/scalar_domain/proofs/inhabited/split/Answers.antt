use Rattle.bpf_model.proofs.Prelude.{◌≡◌, ◌≢◌, ℕ, ◌+◌, ◌-◌, ◌/◌, ◌^◌, ◌<◌, ◌≤◌, sym, subst, arith, bit_or, bit_xor, w64, leading_zeros, and_self}
use Rattle.scalar_domain.proofs.Prelude.{Within}
use native.Mathlib.Decide.{dec_lt}
use Rattle.scalar_domain.proofs.Splits.{same_xor, Splits, splits, from, to, lower, upper}
use Rattle.scalar_domain.proofs.inhabited.split.Goals as goal

apart : (l g : ℕ) → l ≢ g → 0 < bit_xor l g
apart l g n = elim (dec_lt 0 (bit_xor l g)) [
  | yes h ↦ h
  | no h ↦ absurd (n (same_xor l g (omega (arith, h))))
]

module _ (l g : ℕ) (s : Splits l g) where
  shift : ℕ
  shift = (2 ^ 63 - 1) / 2 ^ leading_zeros w64 (bit_xor l g)

  starts : l ≤ bit_or l shift
  unfolding shift
  starts = subst (λ m. l ≤ bit_or l m) (sym s.shifted) (from l g s.bit s.two)

  ends : bit_or l shift ≤ g
  unfolding shift
  ends = subst (λ m. bit_or l m ≤ g) (sym s.shifted) (to l g s.bit s.two)

  below : (n : ℕ) → l ≤ n → n ≤ bit_or l shift → Within n (bit_or l shift)
  unfolding shift
  below = subst (λ m. (n : ℕ) → l ≤ n → n ≤ bit_or l m → Within n (bit_or l m)) (sym s.shifted) (lower l g s.bit s.two)

  above : (n : ℕ) → bit_or l shift < n → n ≤ g → Within (bit_or l shift + 1) n
  unfolding shift
  above = subst (λ m. (n : ℕ) → bit_or l m < n → n ≤ g → Within (bit_or l m + 1) n) (sym s.shifted) (upper l g s.bit s.two)

found : (l g : ℕ) → l < 2 ^ 64 → g < 2 ^ 64 → l ≤ g → l ≢ g → Splits l g
found l g p q h n = splits l g p q h (apart l g n)

pub returns-then-least-greatest-clause-lower : goal.returns-then-least-greatest-clause-lower
returns-then-least-greatest-clause-lower c = λ n h k.
    let e : n ≡ c.args.least = omega (arith, h, k) in
    subst (λ m. Within m c.args.least) (sym e) (and_self c.args.least)

pub overflow_shr-result : goal.overflow_shr-result
overflow_shr-result c =
    let s = found c.args.least c.args.greatest (omega arith) (omega arith) c.requires c.if-least-greatest.false in
    omega (arith, s.zeros)

pub returns-clause-least : goal.returns-clause-least
unfolding shift
returns-clause-least c =
    starts c.args.least c.args.greatest (found c.args.least c.args.greatest (omega arith) (omega arith) c.requires c.if-least-greatest.false)

pub returns-clause-greatest : goal.returns-clause-greatest
unfolding shift
returns-clause-greatest c =
    ends c.args.least c.args.greatest (found c.args.least c.args.greatest (omega arith) (omega arith) c.requires c.if-least-greatest.false)

pub returns-clause-lower : goal.returns-clause-lower
unfolding shift
returns-clause-lower c =
    below c.args.least c.args.greatest (found c.args.least c.args.greatest (omega arith) (omega arith) c.requires c.if-least-greatest.false)

pub returns-clause-upper : goal.returns-clause-upper
unfolding shift
returns-clause-upper c =
    above c.args.least c.args.greatest (found c.args.least c.args.greatest (omega arith) (omega arith) c.requires c.if-least-greatest.false)
