-- Numbers within a mask.
use Rattle.bpf_model.proofs.Prelude.{◌≡◌, ℕ, suc, ◌+◌, ◌-◌, ◌*◌, ◌/◌, ◌%◌, ◌^◌, ◌<◌, ◌≤◌, sym, ◌∙◌, ap, ap₂, subst, arith, bit_and, bit_or, bit_xor, bit_at}
use Rattle.bpf_model.proofs.Prelude.{leading_zeros, w64, and_le_r, and_mask, and_mod, and_shr, and_block, pow_pos, shr_split, leading_top, and_self}
use Rattle.bpf_model.proofs.Prelude.{and_zero_l, bit_at_and, bit_at_or, bit_at_xor, same_from_bits, bit_at-lt, ones_shr, mod-eq_of_lt, shr_mono}
use Rattle.scalar_domain.proofs.Prelude.{Within}

-- a number within a mask has no bit that the mask has not
pub within_bit : (n m i : ℕ) → Within n m → bit_at n i ≤ bit_at m i
within_bit n m i h = omega (arith, ap (λ x. bit_at x i) h, bit_at_and n m i)

pub within_from : (n m : ℕ) → ((i : ℕ) → bit_at n i ≤ bit_at m i) → Within n m
within_from n m h = same_from_bits _ _ (λ i. let e : bit_at n i ≤ bit_at m i = h i in omega (arith, bit_at_and n m i))

pub within-trans : (a b c : ℕ) → Within a b → Within b c → Within a c
within-trans a b c h k = within_from _ _ (λ i. omega (arith, within_bit a b i h, within_bit b c i k))

pub within-or_l : (n a b : ℕ) → Within n a → Within n (bit_or a b)
within-or_l n a b h = within_from _ _ (λ i. omega (arith, within_bit n a i h, bit_at_or a b i))

pub within-or_r : (n a b : ℕ) → Within n b → Within n (bit_or a b)
within-or_r n a b h = within_from _ _ (λ i. omega (arith, within_bit n b i h, bit_at_or a b i))

pub and-within_l : (n a b : ℕ) → Within a n → Within (bit_and a b) n
and-within_l n a b h = within_from _ _ (λ i. omega (arith, within_bit a n i h, bit_at_and a b i))

pub and-within_r : (n a b : ℕ) → Within b n → Within (bit_and a b) n
and-within_r n a b h = within_from _ _ (λ i. omega (arith, within_bit b n i h, bit_at_and a b i))

pub within-and : (x y a b : ℕ) → Within x a → Within y b → Within (bit_and x y) (bit_and a b)
within-and x y a b h k = within_from _ _ (λ i. omega (arith, within_bit x a i h, within_bit y b i k, bit_at_and a b i, bit_at_and x y i))

pub within-or : (x y a b : ℕ) → Within x a → Within y b → Within (bit_or x y) (bit_or a b)
within-or x y a b h k = within_from _ _ (λ i. omega (arith, within_bit x a i h, within_bit y b i k, bit_at_or a b i, bit_at_or x y i))

pub within_le : (n m : ℕ) → Within n m → n ≤ m
within_le n m h = omega (arith, h, and_le_r n m)

pub within_ones : (n k : ℕ) → n < 2 ^ k → Within n (2 ^ k - 1)
within_ones n k h = and_mask n k ∙ mod-eq_of_lt h

pub ruleset bits_laws = (within-or_l, within-or_r, and-within_l, and-within_r, within-and, within-or, within_le, and_self, and_zero_l)

pub within-both : (n a b : ℕ) → Within n a → Within n b → Within n (bit_and a b)
within-both n a b h k = within_from _ _ (λ i. omega (arith, within_bit n a i h, within_bit n b i k, bit_at_and a b i))

pub within-xor : (x y a b : ℕ) → Within x a → Within y b → Within (bit_xor x y) (bit_or a b)
within-xor x y a b h k = within_from _ _ (λ i. omega (
  arith,
  within_bit x a i h,
  within_bit y b i k,
  bit_at_or a b i,
  bit_at_xor x y i,
  bit_at-lt x i,
  bit_at-lt y i,
))

pub within-shr : (n m k : ℕ) → Within n m → Within (n / 2 ^ k) (m / 2 ^ k)
within-shr n m k h = sym (and_shr n m k) ∙ ap (λ x. x / 2 ^ k) h

pub within-mod : (n m k : ℕ) → Within n m → Within (n % 2 ^ k) (m % 2 ^ k)
within-mod n m k h = sym (and_mod n m k) ∙ ap (λ x. x % 2 ^ k) h

and_shl : (n m k : ℕ) → bit_and (n * 2 ^ k) (m * 2 ^ k) ≡ bit_and n m * 2 ^ k
and_shl n m k =
    let e : bit_and (n * 2 ^ k + 0) (m * 2 ^ k + 0) ≡ bit_and n m * 2 ^ k + bit_and 0 0 = and_block k n m 0 0 (pow_pos k) (pow_pos k) in
    let l : n * 2 ^ k + 0 ≡ n * 2 ^ k = omega arith in
    let r : m * 2 ^ k + 0 ≡ m * 2 ^ k = omega arith in
    let s : bit_and n m * 2 ^ k + 0 ≡ bit_and n m * 2 ^ k = omega arith in
    ap₂ bit_and (sym l) (sym r) ∙ e ∙ s

pub within-shl : (n m k : ℕ) → Within n m → Within ((n * 2 ^ k) % 2 ^ 64) ((m * 2 ^ k) % 2 ^ 64)
within-shl n m k h = within-mod (n * 2 ^ k) (m * 2 ^ k) 64 (and_shl n m k ∙ ap (λ x. x * 2 ^ k) h)

-- numbers with one high part are ordered as their low parts
pub low_mono : (x y k : ℕ) → x ≤ y → x / 2 ^ k ≡ y / 2 ^ k → x % 2 ^ k ≤ y % 2 ^ k
low_mono x y k h e =
    let f : x / 2 ^ k * 2 ^ k ≡ y / 2 ^ k * 2 ^ k = ap (λ q. q * 2 ^ k) e in
    omega (arith, f, shr_split x k, shr_split y k)

pub same_high : (l x g k : ℕ) → l ≤ x → x ≤ g → l / 2 ^ k ≡ g / 2 ^ k → (l / 2 ^ k ≡ x / 2 ^ k) × (x / 2 ^ k ≡ g / 2 ^ k)
same_high l x g k p q e = (omega (arith, e, shr_mono k p, shr_mono k q), omega (arith, e, shr_mono k p, shr_mono k q))

pub ones_within : (x n : ℕ) → 0 < n → n < 2 ^ 64 → x ≤ n → Within x ((2 ^ 64 - 1) / 2 ^ leading_zeros w64 n)
ones_within x n p l h =
    let t = leading_top 64 n p l in
    let e : 64 - leading_zeros w64 n ≡ suc t.0 = omega (arith, t.1) in
    let w : leading_zeros w64 n ≤ 64 = omega (arith, t.1) in
    let m : (2 ^ 64 - 1) / 2 ^ leading_zeros w64 n ≡ 2 ^ suc t.0 - 1 = ones_shr 64 (leading_zeros w64 n) w ∙ ap (λ (j : ℕ). 2 ^ j - 1) e in
    subst (Within x) (sym m) (within_ones x (suc t.0) (omega (arith, t.3)))

pub or-within : (n a b : ℕ) → Within a n → Within b n → Within (bit_or a b) n
or-within n a b h k = within_from _ _ (λ i. omega (arith, within_bit a n i h, within_bit b n i k, bit_at_or a b i))
