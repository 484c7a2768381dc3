-- The last digit of a numeral, and that what std prints of a number is its numeral.
use Rattle.bpf_model.proofs.Prelude.{ℕ, zero, suc, ◌≡◌, ◌+◌, ◌/◌, ◌%◌, ◌^◌, ◌<◌, ◌≤◌, List, [], ◌∷◌, ◌++◌, refl, sym, ap, ◌∙◌, arith, map, digits_of, decimal}
use Rattle.bpf_model.proofs.Prelude.{nat_tests, map_push}
use Rattle.std.proofs.lemmas.Int.Digits.{digits_of_step}
use Rattle.std.proofs.lemmas.Fmt.{decimal_by_steps_wide}
use Rattle.disasm.specs.Text.{glyph, glyphs, numeral}

pub above_zero : (n : ℕ) → 0 < n → numeral n ≡ glyphs n
above_zero n h = grind (arith, nat_tests)

pub last_digit : (n : ℕ) → 0 < n → glyphs n ≡ glyphs (n / 10) ++ ((48 + n % 10) ∷ [])
last_digit n h = ap (map glyph) (digits_of_step 10 n (omega arith) h) ∙ map_push glyph (digits_of 10 (n / 10)) (n % 10)

one : (n : ℕ) → n < 10 → ((48 + n) ∷ []) ≡ numeral n
one zero h = refl
one (suc n) h =
    let high : suc n / 10 ≡ 0 = omega arith in
    let low : suc n % 10 ≡ suc n = omega arith in
    let step : glyphs (suc n) ≡ glyphs (suc n / 10) ++ ((48 + suc n % 10) ∷ []) = last_digit (suc n) (omega arith) in
    sym (above_zero (suc n) (omega arith) ∙ step ∙ rw (high, low) refl)

more : (n : ℕ) (ds : List ℕ) → 10 ≤ n → ds ≡ numeral (n / 10) → (ds ++ ((48 + n % 10) ∷ [])) ≡ numeral n
more n ds h e =
    let front : numeral (n / 10) ≡ glyphs (n / 10) = above_zero (n / 10) (omega arith) in
    let whole : numeral n ≡ glyphs n = above_zero n (omega arith) in
    rw (e, front, whole, last_digit n (omega arith)) refl

pub decimal_is_numeral : (n : ℕ) → n < 10 ^ 64 → decimal n ≡ numeral n
decimal_is_numeral n h = decimal_by_steps_wide (λ n ds. ds ≡ numeral n) one more n h
