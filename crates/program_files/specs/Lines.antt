-- Words of a line, and the words that are slots.
use Rattle.std.specs.Prelude.{ℕ, ◌==◌, List, [], ◌∷◌, Option, Some}
use Rattle.std.specs.Fmt.{option_append}
use Rattle.std.specs.List.{slice_split}
use Rattle.std.specs.Result.{result_ok}
use Rattle.hex.specs.Hex.{decode_sized}

-- The words of a line, parted by one space each, which is byte 32. Two spaces have an empty word
-- between them.
abbrev pub file_words : List ℕ → List (List ℕ)
file_words line = slice_split (λ b. b == 32) line

-- the eight bytes of a slot: two hexadecimal digits each, in either case
abbrev pub slot_in : List ℕ → Option (List ℕ)
slot_in word = result_ok (decode_sized word 8)

-- the bytes of the slots, one after the other; None where a word is no slot
abbrev pub code_slots : List (List ℕ) → Option (List ℕ)
code_slots [] = Some []
code_slots (word ∷ words) = option_append (slot_in word) (code_slots words)
