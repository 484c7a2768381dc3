-- What is written of numbers and bytes is read again.
use Rattle.bpf_model.proofs.Prelude.{ℕ, zero, suc, ◌≡◌, ◌*◌, ◌^◌, ◌<◌, ◌==◌, Bool, true, false, not, ◌&&◌, ◌||◌, List, [], ◌∷◌, length, get_or, refl, sym, ap}
use Rattle.bpf_model.proofs.Prelude.{◌∙◌, arith, Option, Some, None, Ok, nat_lt, if◌then◌else◌, codes, bytes_eq, decimal, all_ascii_digits, digits_value}
use Rattle.bpf_model.proofs.Prelude.{ne_eqb, eqb-true, false_from_ne_true, and_parts, nat_tests, decimal_digit, digits_decimal, bytes_eq-Decides}
use Rattle.bpf_model.proofs.Prelude.{IsNumeralModel, numerals_by_value, tells_all_ascii_digits}
use Rattle.std.proofs.lemmas.Fmt.{decimal_nonempty, first_decimal, digits_value-decimal, decimal-digits_value}
use Rattle.std.proofs.Math.Bool.{or-true}
use Rattle.hex.specs.Hex.{IsBytes, decode_of, encode_lower, lower_digits}
use Rattle.hex.proofs.HexLemmas.{decode_of-encode_lower, length-encode_with}
use Rattle.script_lines.specs.ReplyText.{bytes_text}
use Rattle.script_lines.specs.Words.{is_word, is_numeral, number_in, hex_bytes_in}
use Rattle.script_lines.proofs.WordLaws.{long_is_word}

own : IsNumeralModel (λ ds. all_ascii_digits ds ≡ true) (digits_value 10)
own = numerals_by_value (λ ds. all_ascii_digits ds ≡ true) tells_all_ascii_digits

abbrev begins_well : List ℕ → Bool
begins_well word = length word == 1 || not (get_or word 0 0 == 48)

decimal_begins_well : (n : ℕ) → n < 2 ^ 64 → begins_well (decimal n) ≡ true
decimal_begins_well zero h = ap begins_well (decimal_digit 0 (omega arith))
decimal_begins_well (suc n) h =
    let first : 48 < get_or (decimal (suc n)) 0 0 = first_decimal (suc n) (omega arith) h in
    let other : (get_or (decimal (suc n)) 0 0 == 48) ≡ false = ne_eqb (get_or (decimal (suc n)) 0 0) 48 (λ e. omega (arith, first, e)) in
    ap (λ b. length (decimal (suc n)) == 1 || not b) other ∙ or-true (length (decimal (suc n)) == 1)

read_as : (word : List ℕ) (n : ℕ) → is_word word ≡ true → begins_well word ≡ true → all_ascii_digits word ≡ true →
    digits_value 10 word ≡ n → n < 2 ^ 64 → number_in word ≡ Some n
read_as word n some begins digits value h =
    let below : nat_lt n (2 ^ 64) ≡ true = grind (arith, nat_tests) in
    rw (some, begins, digits, value, below) refl

pub number_again : (n : ℕ) → n < 2 ^ 64 → number_in (decimal n) ≡ Some n
number_again n h =
    read_as (decimal n) n (long_is_word (decimal n) (decimal_nonempty n h)) (decimal_begins_well n h) (digits_decimal own n h) (digits_value-decimal own n h) h

picked : (b : Bool) (v n : ℕ) → (let read : Option ℕ = if b then Some v else None in read ≡ Some n) → (b ≡ true) × (v ≡ n)
picked true v n h = (refl, cc h)
picked false v n h = cc h

is_some_word : (word : List ℕ) → is_word word ≡ true → 0 < length word
is_some_word [] h = cc h
is_some_word (c ∷ word) h = omega arith

left_true : (b : Bool) → (b || false) ≡ true → b ≡ true
left_true true h = refl
left_true false h = h

one_digit : (word : List ℕ) → begins_well word ≡ true → get_or word 0 0 ≡ 48 → length word ≡ 1
one_digit word h first = eqb-true (length word) 1 (left_true (length word == 1) (rw first at h))

pub number_once : (word : List ℕ) (n : ℕ) → number_in word ≡ Some n → word ≡ decimal n
number_once word n h =
    let read = picked (is_numeral word && nat_lt (digits_value 10 word) (2 ^ 64)) (digits_value 10 word) n h in
    let tests = and_parts (is_numeral word) (nat_lt (digits_value 10 word) (2 ^ 64)) read.0 in
    let parts = and_parts (is_word word) (begins_well word && all_ascii_digits word) tests.0 in
    let digits = and_parts (begins_well word) (all_ascii_digits word) parts.1 in
    let small : nat_lt (digits_value 10 word) (2 ^ 64) ≡ true = tests.1 in
    let limit : digits_value 10 word < 2 ^ 64 = grind (arith, nat_tests) in
    sym (decimal-digits_value own word digits.1 (is_some_word word parts.0) (one_digit word digits.0) limit) ∙ ap decimal read.1

digits_no_dash : (b : ℕ) (bytes : List ℕ) → bytes_eq (encode_lower (b ∷ bytes)) (codes "-") ≡ false
digits_no_dash b bytes =
    false_from_ne_true (bytes_eq (encode_lower (b ∷ bytes)) (codes "-")) (λ same.
    let e : length (encode_lower (b ∷ bytes)) ≡ 1 = ap length ((bytes_eq-Decides (encode_lower (b ∷ bytes)) (codes "-")).0 same) in
    let twice : length (encode_lower (b ∷ bytes)) ≡ 2 * length (b ∷ bytes) = length-encode_with lower_digits (b ∷ bytes) in
    omega (arith, e, twice))

some_text : (b : ℕ) (bytes : List ℕ) → bytes_text (b ∷ bytes) ≡ encode_lower (b ∷ bytes)
some_text b bytes =
    let some : (length (b ∷ bytes) == 0) ≡ false = ne_eqb (length (b ∷ bytes)) 0 (λ e. omega (arith, e)) in
    rw some refl

digits_again : (b : ℕ) (bytes : List ℕ) → IsBytes (b ∷ bytes) → hex_bytes_in (encode_lower (b ∷ bytes)) ≡ Some (b ∷ bytes)
digits_again b bytes h =
    let dash = digits_no_dash b bytes in
    let again : decode_of (encode_lower (b ∷ bytes)) ≡ Ok (b ∷ bytes) = decode_of-encode_lower (b ∷ bytes) h in
    rw (dash, again) refl

pub bytes_again : (bytes : List ℕ) → IsBytes bytes → hex_bytes_in (bytes_text bytes) ≡ Some bytes
bytes_again [] h = refl
bytes_again (b ∷ bytes) h = ap hex_bytes_in (some_text b bytes) ∙ digits_again b bytes h
