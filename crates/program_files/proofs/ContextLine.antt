-- The line of a context.
use Rattle.bpf_model.proofs.Prelude.{◌≡◌, ℕ, ◌<◌, ◌^◌, ◌==◌, true, false, List, [], ◌∷◌, ◌++◌, refl, sym, ap, ◌∙◌, arith, codes, decimal, onto_first}
use Rattle.bpf_model.proofs.Prelude.{all_ascii_digits, digits_value, ne_eqb, and_parts, false≢true, digits_decimal, decimal_digit, All-nil, All-cons}
use Rattle.bpf_model.proofs.Prelude.{IsNumeralModel, numerals_by_value, tells_all_ascii_digits}
use Rattle.std.specs.Char.{is_ascii_digit}
use Rattle.script_stream.specs.Lines.{lines_of}
use Rattle.program_files.specs.Lines.{file_words}
use Rattle.program_files.specs.Stages.{HasNoByte}
use Rattle.program_files.proofs.Cuts.{first_line, one_word}

own : IsNumeralModel (λ ds. all_ascii_digits ds ≡ true) (digits_value 10)
own = numerals_by_value (λ ds. all_ascii_digits ds ≡ true) tells_all_ascii_digits

no_other : (at : ℕ) (digits : List ℕ) → is_ascii_digit at ≡ false → all_ascii_digits digits ≡ true → HasNoByte at digits
no_other at [] none all = All-nil (λ b. (b == at) ≡ false)
no_other at (b ∷ digits) none all =
    let parts = and_parts (is_ascii_digit b) (all_ascii_digits digits) all in
    All-cons (λ c. (c == at) ≡ false) b digits
    (ne_eqb b at (λ e. false≢true (sym none ∙ ap is_ascii_digit (sym e) ∙ parts.0))) (no_other at digits none parts.1)

decimal_has_no : (at n : ℕ) → is_ascii_digit at ≡ false → n < 2 ^ 64 → HasNoByte at (decimal n)
decimal_has_no at n none h = no_other at (decimal n) none (digits_decimal own n h)

pub context_words : (n : ℕ) → n < 2 ^ 64 → file_words (codes "ctx " ++ decimal n) ≡ codes "ctx" ∷ decimal n ∷ []
context_words n h = ap (λ ws. codes "ctx" ∷ ws) (one_word (decimal n) (decimal_has_no 32 n refl h))

pub context_lines : (n : ℕ) → n < 2 ^ 64 → lines_of (codes "ctx " ++ (decimal n ++ codes "\n")) ≡ (codes "ctx " ++ decimal n) ∷ []
context_lines n h =
    ap (λ ls. onto_first 99 (onto_first 116 (onto_first 120 (onto_first 32 ls)))) (first_line (decimal n) [] (decimal_has_no 10 n refl h))

pub none_is : (codes "ctx " ++ (decimal 0 ++ codes "\n")) ≡ codes "ctx 0" ++ 10 ∷ []
none_is = ap (λ (d : List ℕ). codes "ctx " ++ (d ++ codes "\n")) (decimal_digit 0 (omega arith))
