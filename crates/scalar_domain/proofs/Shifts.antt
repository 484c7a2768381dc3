-- Low bits and shifts of the numbers of a scalar.
use Rattle.bpf_model.proofs.Prelude.{◌≡◌, ℕ, ◌+◌, ◌-◌, ◌*◌, ◌/◌, ◌%◌, ◌^◌, ◌<◌, ◌≤◌, sym, ◌∙◌, ap, subst, arith, pow_pos, pow-add, ones_shr, mod-eq_of_lt}
use Rattle.bpf_model.proofs.Prelude.{mul-mod_left, mul-le-mul_right, shr_mono}
use Rattle.scalar_domain.proofs.Prelude.{Within}
use Rattle.std.proofs.lemmas.Nat.{shl-shr}
use lib.Pow.{mod-mod-pow}
use Rattle.scalar_domain.proofs.Bits.{within-mod, low_mono, same_high}

pub low_ordered : (l g k m : ℕ) → m ≡ 2 ^ k → l ≤ g → l / m ≡ g / m → l % m ≤ g % m
low_ordered l g k m e h f = subst (λ n. l / n ≡ g / n → l % n ≤ g % n) (sym e) (λ q. low_mono l g k h q) f

-- of a number between two bounds with one high part
pub low_between : (l x g k m : ℕ) → m ≡ 2 ^ k → l / m ≡ g / m → l ≤ x → x ≤ g → (l % m ≤ x % 2 ^ k) × (x % 2 ^ k ≤ g % m)
low_between l x g k m e f p q =
    subst (λ n. l / n ≡ g / n → (l % n ≤ x % 2 ^ k) × (x % 2 ^ k ≤ g % n)) (sym e)
    (λ h. let r = same_high l x g k p q h in (low_mono l x k p r.0, low_mono x g k q r.1)) f

pub low_within : (a b k m : ℕ) → m ≡ 2 ^ k → Within a b → Within (a % m) (b % m)
low_within a b k m e h = subst (λ n. Within (a % n) (b % n)) (sym e) (within-mod a b k h)

-- what stays below 2^64 when it is shifted
pub fits_shifted : (g k : ℕ) → k < 64 → g ≤ (2 ^ 64 - 1) / 2 ^ k → g * 2 ^ k < 2 ^ 64
fits_shifted g k l h =
    let e : (2 ^ 64 - 1) / 2 ^ k ≡ 2 ^ (64 - k) - 1 = ones_shr 64 k (omega arith) in
    let p : g < 2 ^ (64 - k) = omega (arith, pow_pos (64 - k)) in
    let q : g * 2 ^ k + 2 ^ k ≤ 2 ^ (64 - k) * 2 ^ k = omega (arith, mul-le-mul_right (2 ^ k) p) in
    let i : (64 - k) + k ≡ 64 = omega arith in
    let j : 2 ^ (64 - k) * 2 ^ k ≡ 2 ^ 64 = sym (pow-add 2 (64 - k) k) ∙ ap (λ (n : ℕ). 2 ^ n) i in
    omega (arith, q, j, pow_pos k)

pub shifted_fits : (g k : ℕ) → g * 2 ^ k < 2 ^ 64 → g ≤ (2 ^ 64 - 1) / 2 ^ k
shifted_fits g k h = omega (arith, shl-shr g k, shr_mono {a = g * 2 ^ k} {b = 2 ^ 64 - 1} k (omega arith))

pub shifted : (n g k : ℕ) → n ≤ g → g * 2 ^ k < 2 ^ 64 → (n * 2 ^ k) % 2 ^ 64 ≡ n * 2 ^ k
shifted n g k h l = mod-eq_of_lt (omega (arith, mul-le-mul_right (2 ^ k) h))

pub shl_mono : (n g k : ℕ) → n ≤ g → g * 2 ^ k < 2 ^ 64 → (n * 2 ^ k) % 2 ^ 64 ≤ (g * 2 ^ k) % 2 ^ 64
shl_mono n g k h l =
    let p : g ≤ g = omega arith in
    omega (arith, shifted n g k h l, shifted g g k p l, mul-le-mul_right (2 ^ k) h)

pub low_zeros : (n k : ℕ) → k < 64 → (n * 2 ^ k) % 2 ^ 64 % 2 ^ k ≡ 0
low_zeros n k l =
    let e : 64 ≡ (64 - k) + k = omega arith in
    ap (λ (j : ℕ). (n * 2 ^ k) % 2 ^ j % 2 ^ k) e ∙ mod-mod-pow (n * 2 ^ k) (64 - k) k ∙ mul-mod_left n (2 ^ k)
