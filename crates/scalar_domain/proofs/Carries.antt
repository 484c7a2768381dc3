-- Bits of sums, by carries.
use Rattle.bpf_model.proofs.Prelude.{◌≡◌, ℕ, ◌+◌, ◌-◌, ◌*◌, ◌/◌, ◌%◌, ◌^◌, ◌<◌, ◌≤◌, sym, ◌∙◌, ap, ap₂, arith, bit_and, bit_or, bit_xor, min, max, bit_at}
use Rattle.bpf_model.proofs.Prelude.{bit_not, w64, pow_pos, shr_split, mod_below, bit_at_and, bit_at_or, bit_at_xor, bit_at-lt, same_from_bits_below}
use Rattle.bpf_model.proofs.Prelude.{mul-add-div_right, add-mod, div-eq_of_lt, shr_mono}
use Rattle.scalar_domain.proofs.Prelude.{Within, HasBits, AreKnownBelow}
use native.Mathlib.Decide.{dec_lt}
use Rattle.std.proofs.lemmas.Nat.Bits.{bit_at_not, bit_at_above, bit_at_mask_inside}
use Rattle.scalar_domain.proofs.Bits.{within_bit, within_from, within_le, within-mod}
use Rattle.scalar_domain.proofs.Multiples.{low_bit, low_zero, sum_low, below_word, word}

-- the carry into a bit of a sum
carry_into : ℕ → ℕ → ℕ → ℕ → ℕ
carry_into i x y c = (x % 2 ^ i + y % 2 ^ i + c) / 2 ^ i

-- a bit of a sum: both numbers' and the carry
bit_of_sum : (x y c i : ℕ) → bit_at (x + y + c) i ≡ (bit_at x i + bit_at y i + carry_into i x y c) % 2
unfolding carry_into
bit_of_sum x y c i =
    let whole : (x / 2 ^ i + y / 2 ^ i) * 2 ^ i + (x % 2 ^ i + y % 2 ^ i + c) ≡ x + y + c = omega (arith, shr_split x i, shr_split y i) in
    let high : (x + y + c) / 2 ^ i ≡ x / 2 ^ i + y / 2 ^ i + (x % 2 ^ i + y % 2 ^ i + c) / 2 ^ i =
    sym (ap (λ n. n / 2 ^ i) whole) ∙ mul-add-div_right (pow_pos i) (x / 2 ^ i + y / 2 ^ i) (x % 2 ^ i + y % 2 ^ i + c) in
    omega (arith, high)

carry_mono : (x y x' y' c i : ℕ) → x % 2 ^ i ≤ x' % 2 ^ i → y % 2 ^ i ≤ y' % 2 ^ i → carry_into i x y c ≤ carry_into i x' y' c
unfolding carry_into
carry_mono x y x' y' c i h k = shr_mono {a = x % 2 ^ i + y % 2 ^ i + c} {b = x' % 2 ^ i + y' % 2 ^ i + c} i (omega (arith, h, k))

carry_small : (x y c i : ℕ) → c ≤ 1 → carry_into i x y c ≤ 1
unfolding carry_into
carry_small x y c i h =
    let top : (1 * 2 ^ i + (2 ^ i - 1)) / 2 ^ i ≡ 1 + (2 ^ i - 1) / 2 ^ i = mul-add-div_right (pow_pos i) 1 (2 ^ i - 1) in
    let none : (2 ^ i - 1) / 2 ^ i ≡ 0 = div-eq_of_lt (omega (arith, pow_pos i)) in
    let below : x % 2 ^ i + y % 2 ^ i + c ≤ 1 * 2 ^ i + (2 ^ i - 1) = omega (arith, h, mod_below x (2 ^ i) (pow_pos i), mod_below y (2 ^ i) (pow_pos i)) in
    omega (arith, top, none, shr_mono i below)

low_le : (n m i : ℕ) → Within n m → n % 2 ^ i ≤ m % 2 ^ i
low_le n m i h = within_le _ _ (within-mod n m i h)

-- A bit of a sum lies between those of the least and of the greatest, where what is open is marked:
-- p, q are the numbers' bits, of the least, of the number itself and of the greatest; k the carries.
parity : (p x p' q y q' k m k' l s g u : ℕ) → p ≤ x → x ≤ p' → p' ≤ 1 → q ≤ y → y ≤ q' → q' ≤ 1 → k ≤ m → m ≤ k' → k' ≤ 1
    → l ≡ (p + q + k) % 2 → s ≡ (x + y + m) % 2 → g ≡ (p' + q' + k') % 2
    → u ≡ max (max ((p' + p) % 2) ((q' + q) % 2)) ((l + g) % 2)
    → (s ≤ max l u) × (min l (1 - u) ≤ s)
parity p x p' q y q' k m k' l s g u h1 h2 h3 h4 h5 h6 h7 h8 h9 e1 e2 e3 e4 = (omega arith, omega arith)

-- the bits that stay open in a sum of words, as the code has them
abbrev pub opened : ℕ → ℕ → ℕ → ℕ → ℕ → ℕ → ℕ
opened a a' b b' l g = bit_or (bit_or (bit_xor a' a) (bit_xor b' b)) (bit_xor l g)

opened_bit : (a a' b b' l g i : ℕ) → bit_at (opened a a' b b' l g) i
    ≡ max (max ((bit_at a' i + bit_at a i) % 2) ((bit_at b' i + bit_at b i) % 2)) ((bit_at l i + bit_at g i) % 2)
opened_bit a a' b b' l g i =
    bit_at_or _ _ i ∙ ap₂ max (bit_at_or _ _ i ∙ ap₂ max (bit_at_xor a' a i) (bit_at_xor b' b i)) (bit_at_xor l g i)

between : (a x a' b y b' c l g i : ℕ) → l ≡ (a + b + c) % 2 ^ 64 → g ≡ (a' + b' + c) % 2 ^ 64 → c ≤ 1 → Within a x →
    Within x a' → Within b y → Within y b' → i < 64
    → (bit_at ((x + y + c) % 2 ^ 64) i ≤ max (bit_at l i) (bit_at (opened a a' b b' l g) i))
    × (min (bit_at l i) (1 - bit_at (opened a a' b b' l g) i) ≤ bit_at ((x + y + c) % 2 ^ 64) i)
between a x a' b y b' c l g i e f small ha ha' hb hb' h =
    parity (bit_at a i) (bit_at x i) (bit_at a' i) (bit_at b i) (bit_at y i) (bit_at b' i)
    (carry_into i a b c) (carry_into i x y c) (carry_into i a' b' c) _ _ _ _
    (within_bit a x i ha) (within_bit x a' i ha') (omega (arith, bit_at-lt a' i))
    (within_bit b y i hb) (within_bit y b' i hb') (omega (arith, bit_at-lt b' i))
    (carry_mono a b x y c i (low_le a x i ha) (low_le b y i hb)) (carry_mono x y a' b' c i (low_le x a' i ha') (low_le y b' i hb'))
    (carry_small a' b' c i small)
    (ap (λ n. bit_at n i) e ∙ low_bit _ 64 i h ∙ bit_of_sum a b c i) (low_bit _ 64 i h ∙ bit_of_sum x y c i)
    (ap (λ n. bit_at n i) f ∙ low_bit _ 64 i h ∙ bit_of_sum a' b' c i)
    (opened_bit a a' b b' l g i)

past : (n i : ℕ) → 64 ≤ i → bit_at (n % 2 ^ 64) i ≡ 0
past n i h = bit_at_above (n % 2 ^ 64) 64 i (word n) h

-- the bits of a sum, by those of the least and of the greatest
pub sum_bits : (a x a' b y b' c l g : ℕ) → l ≡ (a + b + c) % 2 ^ 64 → g ≡ (a' + b' + c) % 2 ^ 64 → opened a a' b b' l g < 2 ^ 64 → c ≤ 1
    → HasBits a' a x → HasBits b' b y
    → HasBits (bit_or l (opened a a' b b' l g)) (bit_and l (bit_not w64 (opened a a' b b' l g))) ((x + y + c) % 2 ^ 64)
sum_bits a x a' b y b' c l g e f fits small h k =
    let s = (x + y + c) % 2 ^ 64 in
    let u = opened a a' b b' l g in
    record {
      zeros = within_from s (bit_or l u) (λ i. elim (dec_lt i 64) [
        | yes below ↦ omega (arith, bit_at_or l u i, (between a x a' b y b' c l g i e f small h.ones h.zeros k.ones k.zeros below).0)
        | no above ↦ omega (arith, past (x + y + c) i (omega (arith, above)))
      ]);
      ones = within_from (bit_and l (bit_not w64 u)) s (λ i. elim (dec_lt i 64) [
        | yes below ↦ omega (
          arith,
          bit_at_and l (bit_not w64 u) i,
          bit_at_not w64 u i fits below,
          (between a x a' b y b' c l g i e f small h.ones h.zeros k.ones k.zeros below).1,
        )
        | no above ↦ omega (arith, bit_at_and l (bit_not w64 u) i, ap (λ n. bit_at n i) e, past (a + b + c) i (omega (arith, above)))
      ]);
    }

-- low bits that are known in both are known in the sum
low_sum : (a a' b b' c t : ℕ) → t ≤ 64 → a % 2 ^ t ≡ a' % 2 ^ t → b % 2 ^ t ≡ b' % 2 ^ t → (a + b + c) % 2 ^ 64 % 2 ^ t ≡ (a' + b' + c) % 2 ^ 64 % 2 ^ t
low_sum a a' b b' c t h e f =
    let one : (a + b) % 2 ^ t ≡ (a' + b') % 2 ^ t = add-mod a b (2 ^ t) ∙ ap₂ (λ m n. (m + n) % 2 ^ t) e f ∙ sym (add-mod a' b' (2 ^ t)) in
    below_word (a + b + c) t h ∙ add-mod (a + b) c (2 ^ t) ∙ ap (λ n. (n + c % 2 ^ t) % 2 ^ t) one ∙
    sym (add-mod (a' + b') c (2 ^ t)) ∙ sym (below_word (a' + b' + c) t h)

pub same_low : (n m t i : ℕ) → n % 2 ^ t ≡ m % 2 ^ t → i < t → bit_at n i ≡ bit_at m i
same_low n m t i e h = sym (low_bit n t i h) ∙ ap (λ x. bit_at x i) e ∙ low_bit m t i h

pub low_known : (a a' b b' c l g t : ℕ) → l ≡ (a + b + c) % 2 ^ 64 → g ≡ (a' + b' + c) % 2 ^ 64 → opened a a' b b' l g < 2 ^ 64 → t ≤ 64
    → AreKnownBelow t a' a → AreKnownBelow t b' b
    → AreKnownBelow t (bit_or l (opened a a' b b' l g)) (bit_and l (bit_not w64 (opened a a' b b' l g)))
low_known a a' b b' c l g t e f fits h i j =
    let u = opened a a' b b' l g in
    same_from_bits_below t _ _ (mod_below _ (2 ^ t) (pow_pos t)) (mod_below _ (2 ^ t) (pow_pos t)) (λ k below.
    let p = same_low a' a t k i below in
    let q = same_low b' b t k j below in
    let r = same_low l g t k (ap (λ n. n % 2 ^ t) e ∙ low_sum a a' b b' c t h (sym i) (sym j) ∙ sym (ap (λ n. n % 2 ^ t) f)) below in
    low_bit _ t k below ∙ omega (
      arith,
      p,
      q,
      r,
      opened_bit a a' b b' l g k,
      bit_at_or l u k,
      bit_at_and l (bit_not w64 u) k,
      bit_at_not w64 u k fits (omega (arith, h, below)),
      bit_at-lt l k,
    ) ∙
    sym (low_bit _ t k below))

-- all bits turned over
pub not_within : (n m : ℕ) → n < 2 ^ 64 → m < 2 ^ 64 → Within n m → Within (bit_not w64 m) (bit_not w64 n)
not_within n m p q h = within_from _ _ (λ i. elim (dec_lt i 64) [
  | yes below ↦ omega (arith, bit_at_not w64 n i p below, bit_at_not w64 m i q below, within_bit n m i h)
  | no above ↦ omega (arith, bit_at_above (bit_not w64 m) 64 i (omega (arith, q)) (omega (arith, above)))
])

pub not_low : (n m t : ℕ) → n < 2 ^ 64 → m < 2 ^ 64 → t ≤ 64 → AreKnownBelow t m n → AreKnownBelow t (bit_not w64 n) (bit_not w64 m)
not_low n m t p q h e =
    same_from_bits_below t _ _ (mod_below _ (2 ^ t) (pow_pos t)) (mod_below _ (2 ^ t) (pow_pos t)) (λ k below.
    low_bit _ t k below ∙ omega (
      arith,
      same_low m n t k e below,
      bit_at_not w64 n k p (omega (arith, h, below)),
      bit_at_not w64 m k q (omega (arith, h, below)),
    ) ∙ sym (low_bit _ t k below))

-- low bits of a sum are zero, where those of the least one are and they are known
pub zero_sum : (m n r s t : ℕ) → t ≤ 64 → m % 2 ^ t ≡ 0 → n % 2 ^ t ≡ 0 → Within r ((m + n + 0) % 2 ^ 64) → AreKnownBelow t s r → s % 2 ^ t ≡ 0
zero_sum m n r s t h e f w k =
    let plain : m + n + 0 ≡ m + n = omega arith in
    k ∙ low_zero r ((m + n + 0) % 2 ^ 64) t w (ap (λ x. x % 2 ^ 64 % 2 ^ t) plain ∙ sum_low m n t h e f)

-- what is known of the low half of a number
pub high_within : (x m : ℕ) → x < 2 ^ 64 → Within (x % 2 ^ 32) m → Within x (bit_or (2 ^ 64 - 2 ^ 32) m)
high_within x m p h = within_from _ _ (λ i. elim (dec_lt i 32) [
  | yes below ↦ omega (arith, bit_at_or (2 ^ 64 - 2 ^ 32) m i, within_bit _ m i h, low_bit x 32 i below)
  | no above ↦ elim (dec_lt i 64) [
    | yes inside ↦ omega (arith, bit_at_or (2 ^ 64 - 2 ^ 32) m i, bit_at_mask_inside 32 64 i (omega (arith, above)) inside, bit_at-lt x i)
    | no past ↦ omega (arith, bit_at_above x 64 i p (omega (arith, past)))
  ]
])

pub low_ones : (m x : ℕ) → Within m (x % 2 ^ 32) → Within m x
low_ones m x h = within_from _ _ (λ i. elim (dec_lt i 32) [
  | yes below ↦ omega (arith, within_bit m _ i h, low_bit x 32 i below)
  | no above ↦ omega (arith, within_bit m _ i h, bit_at_above (x % 2 ^ 32) 32 i (mod_below x (2 ^ 32) (pow_pos 32)) (omega (arith, above)))
])
