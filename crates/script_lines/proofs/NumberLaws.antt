-- Numbers in decimal, digit by digit.
use Rattle.bpf_model.proofs.Prelude.{ℕ, suc, ◌≡◌, ◌+◌, ◌-◌, ◌*◌, ◌^◌, ◌<◌, ◌≤◌, Bool, true, false, ◌&&◌, List, [], ◌∷◌, length, get_or, drop, refl, ap, ◌∙◌}
use Rattle.bpf_model.proofs.Prelude.{arith, Option, Some, None, nat_lt, if◌then◌else◌, IsInRange, all_ascii_digits, digits_value, drop-cons, drop_all}
use Rattle.bpf_model.proofs.Prelude.{nat_tests}
use Rattle.std.specs.Char.{digit_value}
use Rattle.std.specs.Str.Parse.{digits_value_after}

-- what the digits from i on say, behind those that make value, is what all of them say
pub record IsReadSoFar (digits : List ℕ) (i value : ℕ) : Type 0 where
  pub digits_same : all_ascii_digits digits ≡ all_ascii_digits (drop i digits)
  pub value_same : digits_value 10 digits ≡ digits_value_after 10 value (drop i digits)
  pub limit : value < 2 ^ 64

-- the value, where all bytes are digits and it is below 2 ^ 64
abbrev pub small : Bool → ℕ → Option ℕ
small digits value = if digits && nat_lt value (2 ^ 64) then Some value else None

no_more : (b : Bool) (value : ℕ) → 2 ^ 64 ≤ value → small b value ≡ None
no_more true value h = grind (arith, nat_tests)
no_more false value h = refl

after_le : (ds : List ℕ) (n : ℕ) → n ≤ digits_value_after 10 n ds
after_le [] n = omega arith
after_le (c ∷ ds) n = let more : n * 10 + digit_value c ≤ digits_value_after 10 (n * 10 + digit_value c) ds =
    after_le ds (n * 10 + digit_value c) in omega (arith, more)

value_of_digit : (c : ℕ) → IsInRange 48 57 c → digit_value c ≡ c - 48
value_of_digit c h = let low : 48 ≤ c = h.0 in let high : c ≤ 57 = h.1 in grind (arith, nat_tests)

pub too_large : (digits : List ℕ) (i value : ℕ) → i < length digits → IsReadSoFar digits i value →
    IsInRange 48 57 (get_or digits i 0) → 2 ^ 64 ≤ value * 10 + (get_or digits i 0 - 48) →
    small (all_ascii_digits digits) (digits_value 10 digits) ≡ None
too_large digits i value inside so_far range large =
    let digit : digit_value (get_or digits i 0) ≡ get_or digits i 0 - 48 = value_of_digit (get_or digits i 0) range in
    let rest : drop i digits ≡ get_or digits i 0 ∷ drop (suc i) digits = drop-cons digits i 0 inside in
    let same : digits_value 10 digits ≡ digits_value_after 10 (value * 10 + digit_value (get_or digits i 0))
    (drop (suc i) digits) = so_far.value_same ∙ ap (digits_value_after 10 value) rest in
    let low = after_le (drop (suc i) digits) (value * 10 + digit_value (get_or digits i 0)) in
    no_more (all_ascii_digits digits) (digits_value 10 digits) (omega (arith, same, low, large, digit))

pub all_read : (digits : List ℕ) (i value : ℕ) → length digits ≤ i → IsReadSoFar digits i value →
    small (all_ascii_digits digits) (digits_value 10 digits) ≡ Some value
all_read digits i value over so_far =
    let none : drop i digits ≡ [] = drop_all i digits over in
    let digits_all : all_ascii_digits digits ≡ true = so_far.digits_same ∙ ap all_ascii_digits none in
    let is_value : digits_value 10 digits ≡ value = so_far.value_same ∙ ap (digits_value_after 10 value) none in
    let limit : value < 2 ^ 64 = so_far.limit in
    let below : nat_lt value (2 ^ 64) ≡ true = grind (arith, nat_tests) in
    rw (digits_all, is_value, below) refl
