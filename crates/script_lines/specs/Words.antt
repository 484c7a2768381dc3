-- The words of a line, and the numbers and bytes that a word writes.
use Rattle.std.specs.Prelude.{ℕ, ◌^◌, ◌==◌, Bool, not, ◌&&◌, ◌||◌, nat_le, nat_lt, if◌then◌else◌}
use Rattle.std.specs.Prelude.{List, [], length, filter, codes, bytes_eq, slice_index, Option, Some}
use Rattle.std.specs.Prelude.{None}
use Rattle.std.specs.List.{slice_split}
use Rattle.std.specs.Result.{result_ok}
use Rattle.std.specs.Str.{all_ascii_digits}
use Rattle.std.specs.Str.Parse.{digits_value}
use Rattle.arrayvec.specs.ArrayVec.{ArrayVec}
use Rattle.bpf_model.specs.Value.{◌>>=◌}
use Rattle.hex.specs.Hex.{decode_of}
use Rattle.bpf_model.specs.declared.limits.TheConstants.{KEY_BYTES, VALUE_BYTES, CTX_BYTES}
use Rattle.script_lines.specs.declared.bytes.Bytes.{Bytes}
use Rattle.script_lines.specs.declared.bytes.Bytes.TheVariants.{Fit, TooLong}

abbrev pub is_word : List ℕ → Bool
is_word part = not (length part == 0)

-- what stands between spaces, which are bytes 32; several of them part words as one does
abbrev pub words_of : List ℕ → List (List ℕ)
words_of line = filter is_word (slice_split (λ b. b == 32) line)

-- decimal digits, of which the first is no 0 (byte 48), or `0` alone
abbrev pub is_numeral : List ℕ → Bool
is_numeral word =
    is_word word && ((length word == 1 || not (slice_index word 0 == 48)) && all_ascii_digits word)

-- the number that a word writes: one below 2 ^ 64, in decimal without leading zeros
abbrev pub number_in : List ℕ → Option ℕ
number_in word =
    if is_numeral word && nat_lt (digits_value 10 word) (2 ^ 64) then Some (digits_value 10 word)
    else None

-- the most steps that one `step` asks for
abbrev pub most_steps : ℕ
most_steps = 4096

-- how many steps a word asks for: 1 to most_steps
abbrev pub count_in : List ℕ → Option ℕ
count_in word = do
  count ← number_in word
  if nat_le 1 count && nat_le count most_steps then Some count else None

-- the bytes that a word writes: each as two hexadecimal digits of either case, or `-` for none
abbrev pub hex_bytes_in : List ℕ → Option (List ℕ)
hex_bytes_in word = if bytes_eq word (codes "-") then Some [] else result_ok (decode_of word)

-- the bytes, where they are at most so many
abbrev pub fitting : ℕ → List ℕ → Bytes (ArrayVec ℕ)
fitting most bytes = if nat_le (length bytes) most then Fit (record { items = bytes }) else TooLong

-- the bytes that a word writes for something that has at most so many
abbrev pub sized_bytes_in : ℕ → List ℕ → Option (Bytes (ArrayVec ℕ))
sized_bytes_in most word = do
  bytes ← hex_bytes_in word
  Some (fitting most bytes)

abbrev pub key_bytes_in : List ℕ → Option (Bytes (ArrayVec ℕ))
key_bytes_in word = sized_bytes_in KEY_BYTES word

abbrev pub value_bytes_in : List ℕ → Option (Bytes (ArrayVec ℕ))
value_bytes_in word = sized_bytes_in VALUE_BYTES word

abbrev pub context_bytes_in : List ℕ → Option (Bytes (ArrayVec ℕ))
context_bytes_in word = sized_bytes_in CTX_BYTES word
