-- Numbers as bytes.
use Rattle.bpf_model.proofs.Prelude.{◌≡◌, ℕ, zero, suc, ◌+◌, ◌-◌, ◌*◌, ◌/◌, ◌^◌, ◌<◌, ◌≤◌, sym, ◌∙◌, ap, arith, add-one, lit<, Option, Some, pow-suc}
use Rattle.bpf_model.proofs.Prelude.{pow-le-pow_right, div-div-eq-div-mul, number_at, ◌>>=◌}
use Rattle.std.proofs.Math.Numerals.{sub-one}

pub pow_step : (w : ℕ) → 0 < w → 256 ^ w ≡ 256 ^ (w - 1) * 256
pow_step w h = let e : w ≡ suc (w - 1) = omega arith in ap (λ (k : ℕ). 256 ^ k) e ∙ pow-suc 256 (w - 1)

pub pow_top : (w : ℕ) → w ≤ 8 → 256 ^ w ≤ 2 ^ 64
pow_top w h = let l : 256 ^ w ≤ 256 ^ 8 = pow-le-pow_right (lit< tt) h in l

pub number_step : (bytes : ℕ → Option ℕ) (at w b h n : ℕ) → 0 < w → bytes at ≡ Some b →
    number_at bytes (at + 1) (w - 1) ≡ Some h → n ≡ b + 256 * h → Some n ≡ number_at bytes at w
number_step bytes at zero b h n p e f g = absurd (omega arith)
number_step bytes at (suc w) b h n p e f g =
    let k : number_at bytes (suc at) w ≡ Some h = sym (ap (λ k. number_at bytes k w) (add-one at)) ∙
    sym (ap (λ k. number_at bytes (at + 1) k) (sub-one (suc w))) ∙ f in
    ap Some g ∙ sym (ap (λ o. o >>= λ b. number_at bytes (suc at) w >>= λ n. Some (b + 256 * n)) e ∙ ap (λ o. o >>= λ n. Some (b + 256 * n)) k)

pub div_step : (n i : ℕ) → n / 256 ^ i / 256 ≡ n / 256 ^ (i + 1)
div_step n i =
    let e : suc i ≡ i + 1 = omega arith in
    div-div-eq-div-mul n (256 ^ i) 256 ∙ ap (λ m. n / m) (sym (pow-suc 256 i) ∙ ap (λ (k : ℕ). 256 ^ k) e)
