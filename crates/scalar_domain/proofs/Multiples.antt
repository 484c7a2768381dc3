-- Numbers whose low bits are zero.
use Rattle.bpf_model.proofs.Prelude.{◌≡◌, ℕ, ◌+◌, ◌-◌, ◌*◌, ◌/◌, ◌%◌, ◌^◌, ◌<◌, ◌≤◌, sym, ◌∙◌, ap, ap₂, subst, arith, bit_and, bit_at, trailing_zeros, w64}
use Rattle.bpf_model.proofs.Prelude.{and_mod, pow_pos, mod_below, pow-add, bit_at-trailing_zeros, same_from_bits_below, bit_at-zero, add-mod, mul-mod_left}
use Rattle.bpf_model.proofs.Prelude.{mod-eq_of_lt, shr_split}
use Rattle.scalar_domain.proofs.Prelude.{Within}
use native.Mathlib.Decide.{dec_le}
use lib.Pow.{mod-mod-pow, pow_mono}
use Rattle.std.proofs.lemmas.Nat.{mul-mod}
use Rattle.std.specs.Int.Bits.{and_zero_r}
use Rattle.std.proofs.lemmas.Nat.Bits.{and_high_mask, bit_at_cat_low}
use Rattle.std.proofs.Math.Nat.{zero-mod}
use Rattle.scalar_domain.proofs.Bits.{within-both}

-- the low bits are zero where the mask's are
pub low_zero : (n m t : ℕ) → Within n m → m % 2 ^ t ≡ 0 → n % 2 ^ t ≡ 0
low_zero n m t h e = sym (ap (λ x. x % 2 ^ t) h) ∙ and_mod n m t ∙ ap (bit_and (n % 2 ^ t)) e ∙ and_zero_r (n % 2 ^ t)

pub from_low_zero : (n t : ℕ) → t ≤ 64 → n < 2 ^ 64 → n % 2 ^ t ≡ 0 → Within n (2 ^ 64 - 2 ^ t)
from_low_zero n t k l e = and_high_mask 64 t k n l ∙ omega (arith, shr_split n t, e)

-- the low bits of a number are its bits
pub low_bit : (n t i : ℕ) → i < t → bit_at (n % 2 ^ t) i ≡ bit_at n i
low_bit n t i h = sym (bit_at_cat_low (n / 2 ^ t) t (n % 2 ^ t) i h) ∙ ap (λ x. bit_at x i) (shr_split n t)

pub lowest_zero : (n : ℕ) → 0 < n → n < 2 ^ 64 → n % 2 ^ trailing_zeros w64 n ≡ 0
lowest_zero n p h =
    let f = bit_at-trailing_zeros w64 n p h in
    same_from_bits_below (trailing_zeros w64 n) _ 0 (mod_below n _ (pow_pos (trailing_zeros w64 n))) (pow_pos (trailing_zeros w64 n))
    (λ i l. low_bit n _ i l ∙ f.2 i l ∙ sym (bit_at-zero i))

-- no more low bits are zero
lowest_most : (n s : ℕ) → 0 < n → n < 2 ^ 64 → n % 2 ^ s ≡ 0 → s ≤ trailing_zeros w64 n
lowest_most n s p h e =
    let f = bit_at-trailing_zeros w64 n p h in
    elim (dec_le s (trailing_zeros w64 n)) [
      | yes le ↦ le
      | no not ↦
          let lt : trailing_zeros w64 n < s = omega arith in
          let one : bit_at (n % 2 ^ s) (trailing_zeros w64 n) ≡ 1 = low_bit n s _ lt ∙ f.1 in
          let none : bit_at (n % 2 ^ s) (trailing_zeros w64 n) ≡ 0 = ap (λ x. bit_at x (trailing_zeros w64 n)) e ∙ bit_at-zero _ in
          absurd (omega arith)
    ]

difference : (a b c : ℕ) → (a + b) * c - a * c ≡ b * c
difference a b c = omega arith

pub high_zero : (s t : ℕ) → s ≤ t → t ≤ 64 → (2 ^ 64 - 2 ^ t) % 2 ^ s ≡ 0
high_zero s t h k =
    let e' : (64 - s) + s ≡ 64 = omega arith in
    let f' : (t - s) + s ≡ t = omega arith in
    let e : 2 ^ (64 - s) * 2 ^ s ≡ 2 ^ 64 = sym (pow-add 2 (64 - s) s) ∙ ap (λ (x : ℕ). 2 ^ x) e' in
    let f : 2 ^ (t - s) * 2 ^ s ≡ 2 ^ t = sym (pow-add 2 (t - s) s) ∙ ap (λ (x : ℕ). 2 ^ x) f' in
    let l : 2 ^ (t - s) ≤ 2 ^ (64 - s) = pow_mono (omega arith) in
    let d : 2 ^ (t - s) + (2 ^ (64 - s) - 2 ^ (t - s)) ≡ 2 ^ (64 - s) = omega arith in
    let g : 2 ^ 64 - 2 ^ t ≡ (2 ^ (64 - s) - 2 ^ (t - s)) * 2 ^ s =
    sym (ap₂ (λ a b. a - b) (ap (λ x. x * 2 ^ s) d ∙ e) f) ∙ difference (2 ^ (t - s)) (2 ^ (64 - s) - 2 ^ (t - s)) (2 ^ s) in
    ap (λ x. x % 2 ^ s) g ∙ mul-mod_left _ (2 ^ s)

pub most_zero : (n s : ℕ) → 0 < n → n < 2 ^ 64 → n % 2 ^ s ≡ 0 → (2 ^ 64 - 2 ^ trailing_zeros w64 n) % 2 ^ s ≡ 0
most_zero n s p h e =
    let b = bit_at-trailing_zeros w64 n p h in
    high_zero s (trailing_zeros w64 n) (lowest_most n s p h e) (omega (arith, b.0))

-- remainders by a power below that of the word
pub below_word : (n t : ℕ) → t ≤ 64 → n % 2 ^ 64 % 2 ^ t ≡ n % 2 ^ t
below_word n t k =
    let e : 64 ≡ (64 - t) + t = omega arith in
    ap (λ (j : ℕ). n % 2 ^ j % 2 ^ t) e ∙ mod-mod-pow n (64 - t) t

pub sum_low : (x y t : ℕ) → t ≤ 64 → x % 2 ^ t ≡ 0 → y % 2 ^ t ≡ 0 → (x + y) % 2 ^ 64 % 2 ^ t ≡ 0
sum_low x y t k e f = below_word (x + y) t k ∙ add-mod x y (2 ^ t) ∙ ap₂ (λ a b. (a + b) % 2 ^ t) e f ∙ zero-mod (2 ^ t)

-- a multiple times a number is a multiple
pub product_low : (x y t : ℕ) → t ≤ 64 → x % 2 ^ t ≡ 0 → (x * y) % 2 ^ 64 % 2 ^ t ≡ 0
product_low x y t k e = below_word (x * y) t k ∙ mul-mod x y (2 ^ t) ∙ ap (λ n. (n * (y % 2 ^ t)) % 2 ^ t) e ∙
    ap (λ n. n % 2 ^ t) (omega arith) ∙ zero-mod (2 ^ t)

pub only_zero : (n : ℕ) → n < 2 ^ 64 → n % 2 ^ 64 ≡ 0 → Within n 0
only_zero n l e =
    let z : n ≡ 0 = sym (mod-eq_of_lt l) ∙ e in
    subst (λ m. Within m 0) (sym z) (and_zero_r 0)

-- What ones_from ensures of a mask.
abbrev pub Covers : ℕ → ℕ → Type 0
Covers mask ones = (n : ℕ) → n < 2 ^ 64 → ((t : ℕ) → t ≤ 64 → mask % 2 ^ t ≡ 0 → n % 2 ^ t ≡ 0) → Within n ones

pub word : (n : ℕ) → n % 2 ^ 64 < 2 ^ 64
word n = mod_below n (2 ^ 64) (pow_pos 64)

pub product_within : (x y a b r s : ℕ) → Covers a r → Covers b s → Within x a → Within y b → Within ((x * y) % 2 ^ 64) (bit_and r s)
product_within x y a b r s v w h k =
    let e : y * x ≡ x * y = omega arith in
    within-both ((x * y) % 2 ^ 64) r s
    (v ((x * y) % 2 ^ 64) (word (x * y)) (λ t l e. product_low x y t l (low_zero x a t h e)))
    (w ((x * y) % 2 ^ 64) (word (x * y)) (λ t l f. ap (λ n. n % 2 ^ 64 % 2 ^ t) (sym e) ∙ product_low y x t l (low_zero y b t k f)))
