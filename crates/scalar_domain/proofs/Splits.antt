-- Where the numbers between two bounds are split.
use Rattle.bpf_model.proofs.Prelude.{◌≡◌, ℕ, suc, ◌+◌, ◌-◌, ◌*◌, ◌/◌, ◌%◌, ◌^◌, ◌<◌, ◌≤◌, ◌⊎◌, inl, inr, sym, ◌∙◌, ap, ap₂, arith, bit_and, bit_or, bit_xor}
use Rattle.bpf_model.proofs.Prelude.{bit_at, w64, leading_zeros, and_self, and_zero_l, and_block, pow_pos, shr_split, mod_below, leading_top, xor_lt}
use Rattle.bpf_model.proofs.Prelude.{bit_at_or, bit_at_xor, bit_at-zero, bit_at-lt, same_from_bits, ones_shr, mul-add-div_right, div-eq_of_lt, shr_mono}
use Rattle.scalar_domain.proofs.Prelude.{Within, Holds, HoldsSome}
use Rattle.std.specs.Int.Bits.{or_zero_r}
use Rattle.std.proofs.lemmas.Nat.{or_block, xor_shr}
use Rattle.std.proofs.lemmas.Nat.Bits.{bit_at_lowest}
use native.Mathlib.Decide.{dec_lt}
use Rattle.scalar_domain.specs.declared.scalar.Scalar.{Scalar}
use Rattle.scalar_domain.proofs.Bits.{within_bit, within_ones, within_le, within-both, within-trans, or-within, within-or_l, within-or_r, and-within_l}
use Rattle.scalar_domain.proofs.Bits.{and-within_r}

pub same_xor : (a b : ℕ) → bit_xor a b ≡ 0 → a ≡ b
same_xor a b e = same_from_bits _ _ (λ i. omega (
  arith,
  ap (λ x. bit_at x i) e,
  bit_at_xor a b i,
  bit_at-zero i,
  bit_at-lt a i,
  bit_at-lt b i,
))

next : (a b : ℕ) → a ≤ b → bit_xor a b ≡ 1 → b ≡ a + 1
next a b h e =
    let q : a / 2 ^ 1 ≡ b / 2 ^ 1 = same_xor _ _ (sym (xor_shr a b 1) ∙ ap (λ x. x / 2 ^ 1) e) in
    let l : bit_at (bit_xor a b) 0 ≡ 1 = ap (λ x. bit_at x 0) e in
    omega (arith, q, h, l, bit_at_xor a b 0, bit_at_lowest a, bit_at_lowest b)

-- a number of one block of 2^k
in_block : (q r k : ℕ) → r < 2 ^ k → (q * 2 ^ k + r) / 2 ^ k ≡ q
in_block q r k h =
    let e : (q * 2 ^ k + r) / 2 ^ k ≡ q + r / 2 ^ k = mul-add-div_right (pow_pos k) q r in
    let z : r / 2 ^ k ≡ 0 = div-eq_of_lt h in
    omega (arith, e, z)

-- the numbers from l to g lie in two blocks, where the highest bit that differs is that of 2^k
pub halves : (l g k : ℕ) → l ≤ g → 2 ^ k ≤ bit_xor l g → bit_xor l g < 2 ^ suc k → g / 2 ^ k ≡ l / 2 ^ k + 1
halves l g k h p q =
    let x = bit_xor l g in
    let w : x ≡ 1 * 2 ^ k + (x - 2 ^ k) = omega (arith, p) in
    let e : x / 2 ^ k ≡ 1 = ap (λ n. n / 2 ^ k) w ∙ in_block 1 (x - 2 ^ k) k (omega (arith, p, q)) in
    next (l / 2 ^ k) (g / 2 ^ k) (shr_mono k h) (sym (xor_shr l g k) ∙ e)

absorbed : (r m : ℕ) → Within r m → bit_or r m ≡ m
absorbed r m h = same_from_bits _ _ (λ i. omega (arith, within_bit r m i h, bit_at_or r m i))

-- the last number of a block
pub last : (l k : ℕ) → bit_or l (2 ^ k - 1) ≡ l / 2 ^ k * 2 ^ k + (2 ^ k - 1)
last l k =
    let m = 2 ^ k - 1 in
    let q = l / 2 ^ k in
    let r = l % 2 ^ k in
    let s : r < 2 ^ k = mod_below l (2 ^ k) (pow_pos k) in
    let t : m < 2 ^ k = omega (arith, pow_pos k) in
    let e : l ≡ q * 2 ^ k + r = omega (arith, shr_split l k) in
    let z : m ≡ 0 * 2 ^ k + m = omega arith in
    ap₂ bit_or e z ∙ or_block k q 0 r m s t ∙ ap₂ (λ a b. a * 2 ^ k + b) (or_zero_r q) (absorbed r m (within_ones r k s))

module _ (l g k : ℕ) (two : g / 2 ^ k ≡ l / 2 ^ k + 1) where
  pub from : l ≤ bit_or l (2 ^ k - 1)
  from = omega (arith, last l k, shr_split l k, mod_below l (2 ^ k) (pow_pos k))

  next_block : g / 2 ^ k * 2 ^ k ≡ l / 2 ^ k * 2 ^ k + 2 ^ k
  next_block =
      let e : g / 2 ^ k * 2 ^ k ≡ (l / 2 ^ k + 1) * 2 ^ k = ap (λ q. q * 2 ^ k) two in
      omega (arith, e)

  pub to : bit_or l (2 ^ k - 1) ≤ g
  to = omega (arith, last l k, shr_split g k, next_block)

  pub lower : (n : ℕ) → l ≤ n → n ≤ bit_or l (2 ^ k - 1) → Within n (bit_or l (2 ^ k - 1))
  lower n h j =
      let m = 2 ^ k - 1 in
      let t : m < 2 ^ k = omega (arith, pow_pos k) in
      let top : n ≤ l / 2 ^ k * 2 ^ k + m = omega (arith, j, last l k) in
      let u : n / 2 ^ k ≤ (l / 2 ^ k * 2 ^ k + m) / 2 ^ k = shr_mono k top in
      let q : n / 2 ^ k ≡ l / 2 ^ k = omega (arith, u, in_block (l / 2 ^ k) m k t, shr_mono {a = l} {b = n} k h) in
      let r = n % 2 ^ k in
      let s : r < 2 ^ k = mod_below n (2 ^ k) (pow_pos k) in
      let f : n / 2 ^ k * 2 ^ k ≡ l / 2 ^ k * 2 ^ k = ap (λ q. q * 2 ^ k) q in
      let e : n ≡ l / 2 ^ k * 2 ^ k + r = omega (arith, f, shr_split n k) in
      ap₂ bit_and e (last l k) ∙ and_block k (l / 2 ^ k) (l / 2 ^ k) r m s t ∙
      ap₂ (λ a b. a * 2 ^ k + b) (and_self (l / 2 ^ k)) (within_ones r k s) ∙ sym e

  pub upper : (n : ℕ) → bit_or l (2 ^ k - 1) < n → n ≤ g → Within (bit_or l (2 ^ k - 1) + 1) n
  upper n h j =
      let b = g / 2 ^ k in
      let low : b * 2 ^ k + 0 ≤ n = omega (arith, h, last l k, next_block) in
      let u : (b * 2 ^ k + 0) / 2 ^ k ≤ n / 2 ^ k = shr_mono k low in
      let q : n / 2 ^ k ≡ b = omega (arith, u, in_block b 0 k (pow_pos k), shr_mono {a = n} {b = g} k j) in
      let r = n % 2 ^ k in
      let s : r < 2 ^ k = mod_below n (2 ^ k) (pow_pos k) in
      let f : n / 2 ^ k * 2 ^ k ≡ b * 2 ^ k = ap (λ q. q * 2 ^ k) q in
      let e : n ≡ b * 2 ^ k + r = omega (arith, f, shr_split n k) in
      let v : bit_or l (2 ^ k - 1) + 1 ≡ b * 2 ^ k + 0 = omega (arith, last l k, next_block, pow_pos k) in
      ap₂ bit_and v e ∙ and_block k b b 0 r (pow_pos k) s ∙
      ap₂ (λ x y. x * 2 ^ k + y) (and_self b) (and_zero_l r) ∙ sym v

-- what the code shifts is all ones below the highest bit that differs
pub below_top : (x k : ℕ) → leading_zeros w64 x + suc k ≡ 64 → (2 ^ 63 - 1) / 2 ^ leading_zeros w64 x ≡ 2 ^ k - 1
below_top x k e =
    let w : leading_zeros w64 x ≤ 63 = omega (arith, e) in
    let d : 63 - leading_zeros w64 x ≡ k = omega (arith, e) in
    ones_shr 63 (leading_zeros w64 x) w ∙ ap (λ (j : ℕ). 2 ^ j - 1) d

-- two bounds that differ, and the bit
pub record Splits (l g : ℕ) : Type 0 where
  pub bit : ℕ
  pub zeros : leading_zeros w64 (bit_xor l g) + suc bit ≡ 64
  pub two : g / 2 ^ bit ≡ l / 2 ^ bit + 1
  pub shifted : (2 ^ 63 - 1) / 2 ^ leading_zeros w64 (bit_xor l g) ≡ 2 ^ bit - 1

pub splits : (l g : ℕ) → l < 2 ^ 64 → g < 2 ^ 64 → l ≤ g → 0 < bit_xor l g → Splits l g
splits l g p q h d =
    let t = leading_top 64 (bit_xor l g) d (xor_lt 64 l g p q) in
    record {
      bit = t.0;
      zeros = t.1;
      two = halves l g t.0 h t.2 t.3;
      shifted = below_top (bit_xor l g) t.0 t.1;
    }

-- Where the split of a set's bounds is known: a set that holds some number holds the greatest of the
-- lower part with all the ones that may be there, or the least of the upper part with those that must.
pub decided : (s : Scalar) (m : ℕ) → s.least ≤ m → m ≤ s.greatest →
    ((n : ℕ) → s.least ≤ n → n ≤ m → Within n m) → ((n : ℕ) → m < n → n ≤ s.greatest → Within (m + 1) n) →
    HoldsSome s → Holds s (bit_and m s.may) ⊎ ((m < s.greatest) × Holds s (bit_or (m + 1) s.must))
decided s m p q f g h =
    let n = h.number in
    let k = h.held in elim (dec_lt m n) [
      | yes above ↦
          let w : Within (bit_or (m + 1) s.must) n = or-within n (m + 1) s.must (g n above k.greatest) k.ones in inr (
            omega (arith, above, k.greatest),
            record {
              least = omega (arith, p, within_le (m + 1) (bit_or (m + 1) s.must) (within-or_l (m + 1) (m + 1) s.must (and_self (m + 1))));
              greatest = omega (arith, within_le (bit_or (m + 1) s.must) n w, k.greatest);
              zeros = within-trans (bit_or (m + 1) s.must) n s.may w k.zeros;
              ones = within-or_r s.must (m + 1) s.must (and_self s.must);
            },
          )
      | no above ↦
          let w : Within n (bit_and m s.may) = within-both n m s.may (f n k.least (omega (arith, above))) k.zeros in inl (record {
            least = omega (arith, within_le n (bit_and m s.may) w, k.least);
            greatest = omega (arith, within_le (bit_and m s.may) m (and-within_l m m s.may (and_self m)), q);
            zeros = and-within_r s.may m s.may (and_self s.may);
            ones = within-trans s.must n (bit_and m s.may) k.ones w;
          })
    ]
