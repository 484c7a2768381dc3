-- The numbers that words write.
use Rattle.std.specs.Prelude.{ℕ, ◌==◌, ◌+◌, ◌*◌, ◌^◌, nat_lt, ◌&&◌, if◌then◌else◌, List, [], ◌∷◌, Option, Some, None}
use Rattle.std.specs.Char.{digit_value}

-- n with one more digit of this base at its end, where that is below 2 ^ 64
abbrev pub with_digit : ℕ → ℕ → ℕ → Option ℕ
with_digit base n digit =
    if nat_lt digit base && nat_lt (n * base + digit) (2 ^ 64) then Some (n * base + digit) else None

-- the number with these digits behind those of another
abbrev pub with_digits : ℕ → Option ℕ → List ℕ → Option ℕ
with_digits base None digits = None
with_digits base (Some n) [] = Some n
with_digits base (Some n) (b ∷ digits) = with_digits base (with_digit base n (digit_value b)) digits

abbrev pub digits_in : ℕ → List ℕ → Option ℕ
digits_in base digits = with_digits base (Some 0) digits

-- `0x` and digits of either case
abbrev pub hex_in : List ℕ → Option ℕ
hex_in (a ∷ b ∷ digit ∷ digits) = if a == 48 && b == 120 then digits_in 16 (digit ∷ digits) else None
hex_in _ = None

-- decimal digits, of which the first is no 0, or `0` alone
abbrev pub decimal_in : List ℕ → Option ℕ
decimal_in [] = None
decimal_in (digit ∷ []) = digits_in 10 (digit ∷ [])
decimal_in (first ∷ digit ∷ digits) = if first == 48 then None else digits_in 10 (first ∷ digit ∷ digits)

abbrev pub first_of : Option ℕ → Option ℕ → Option ℕ
first_of (Some n) other = Some n
first_of None other = other

-- a number in hexadecimal or in decimal
abbrev pub number_in : List ℕ → Option ℕ
number_in word = first_of (hex_in word) (decimal_in word)
