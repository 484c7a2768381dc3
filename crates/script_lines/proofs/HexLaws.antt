-- Bytes in hexadecimal: how many they are, and that what was decoded is them.
use Rattle.bpf_model.proofs.Prelude.{ℕ, ◌≡◌, ◌≢◌, ◌*◌, ◌/◌, ◌%◌, true, false, List, length, refl, sym, ap, ◌∙◌, arith, Some, None, Result, Ok, Err}
use Rattle.bpf_model.proofs.Prelude.{MatchResult, codes, bytes_eq, option_map, list_all, result_ok}
use Rattle.std.proofs.lemmas.List.Sums.{AllPass-from_list_all, list_all-from_AllPass}
use Rattle.hex.specs.Hex.{decode_of, decode_sized, is_hex_digit}
use Rattle.hex.specs.declared.error.FromHexError.{FromHexError}
use Rattle.hex.proofs.HexLemmas.{decode_of-ok, decode_of-digits, decode_sized-twice}
use Rattle.script_lines.specs.Words.{hex_bytes_in}

decoded_as : (word out new : List ℕ) (r : Result (Unit {0}) FromHexError) (d : Result (List ℕ) FromHexError) →
    decode_of word ≡ d → option_map length (result_ok d) ≡ Some (length out) →
    MatchResult (decode_sized word (length out)) (λ bytes. (r ≡ Ok tt) × (new ≡ bytes)) (λ e. r ≡ Err e) →
    result_ok d ≡ Some new
decoded_as word out new r (Err e) eq h m = cc h
decoded_as word out new r (Ok bytes) eq h m =
    let len : length bytes ≡ length out = cc h in
    let ok = decode_of-ok word bytes eq in
    let twice : length word ≡ 2 * length bytes = ok.2 in
    let sized : decode_sized word (length out) ≡ Ok bytes = decode_sized-twice word (length out) (omega (arith, twice, len)) ∙ eq in
    let found = rw sized at m in
    ap (λ (bs : List ℕ). Some bs) (sym found.1)

not_dash : (word : List ℕ) → bytes_eq word (codes "-") ≡ false → hex_bytes_in word ≡ result_ok (decode_of word)
not_dash word h = rw h refl

pub decoded : (word out new : List ℕ) (r : Result (Unit {0}) FromHexError) → bytes_eq word (codes "-") ≡ false →
    option_map length (hex_bytes_in word) ≡ Some (length out) →
    MatchResult (decode_sized word (length out)) (λ bytes. (r ≡ Ok tt) × (new ≡ bytes)) (λ e. r ≡ Err e) →
    hex_bytes_in word ≡ Some new
decoded word out new r dash h m =
    not_dash word dash ∙ decoded_as word out new r (decode_of word) refl (sym (ap (option_map length) (not_dash word dash)) ∙ h) m

pub count_of_digits : (word : List ℕ) → bytes_eq word (codes "-") ≡ false → length word % 2 ≡ 0 →
    list_all is_hex_digit word ≡ true → option_map length (hex_bytes_in word) ≡ Some (length word / 2)
count_of_digits word dash even all =
    let found = decode_of-digits word even (AllPass-from_list_all is_hex_digit word all) in
    let ok = decode_of-ok word found.0 found.1 in
    let twice : length word ≡ 2 * length found.0 = ok.2 in
    let half : length found.0 ≡ length word / 2 = omega (arith, twice) in
    ap (option_map length) (not_dash word dash ∙ ap result_ok found.1) ∙ ap (λ (n : ℕ). Some n) half

none_as : (word : List ℕ) (d : Result (List ℕ) FromHexError) → decode_of word ≡ d →
    ((bytes : List ℕ) → decode_of word ≡ Ok bytes → ⊥) → option_map length (result_ok d) ≡ None
none_as word (Err e) eq h = refl
none_as word (Ok bytes) eq h = absurd (h bytes eq)

pub none_of_odd : (word : List ℕ) → bytes_eq word (codes "-") ≡ false → length word % 2 ≢ 0 → option_map length (hex_bytes_in word) ≡ None
none_of_odd word dash odd =
    ap (option_map length) (not_dash word dash) ∙ none_as word (decode_of word) refl (λ bytes eq. odd (decode_of-ok word bytes eq).0)

pub none_of_others : (word : List ℕ) → bytes_eq word (codes "-") ≡ false → list_all is_hex_digit word ≡ false → option_map length (hex_bytes_in word) ≡ None
none_of_others word dash others =
    ap (option_map length) (not_dash word dash)
    ∙ none_as word (decode_of word) refl (λ bytes eq. let all : list_all is_hex_digit word ≡ true =
    list_all-from_AllPass is_hex_digit word (decode_of-ok word bytes eq).1 in let no : true ≡ false = sym all ∙
    others in cc no)

-- how many bytes a word writes
pub ruleset counting = (count_of_digits, none_of_odd, none_of_others)
