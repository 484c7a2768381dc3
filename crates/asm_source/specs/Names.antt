-- The names of a source, and what they stand for.
use Rattle.std.specs.Prelude.{ℕ, ◌==◌, ◌+◌, Bool, true, false, not, ◌||◌, ◌&&◌, nat_le, if◌then◌else◌}
use Rattle.std.specs.Prelude.{List, [], ◌∷◌, ◌++◌, length, take, slice_index, codes, bytes_eq, Option, Some, None, is_some}
use Rattle.std.specs.Prelude.{option_map, Result, Ok, Err}
use Rattle.std.specs.List.{find}
use Rattle.std.specs.Str.{all_ascii_digits}
use Rattle.asm_source.specs.Tokens.{lines_of, tokens_of}
use Rattle.asm_source.specs.Numbers.{number_in}
use Rattle.asm_source.specs.declared.names.Meaning.{Meaning}
use Rattle.asm_source.specs.declared.names.Meaning.TheVariants.{Place, Number}
use Rattle.asm_source.specs.declared.fault.SourceFault.{SourceFault}
use Rattle.asm_source.specs.declared.fault.SourceFault.TheVariants as fault

-- a name and what it stands for
pub record Binding : Type 0 where
  pub name : List ℕ
  pub meaning : Meaning

-- `r` and digits
abbrev pub is_register : List ℕ → Bool
is_register (b ∷ digit ∷ digits) = b == 114 && all_ascii_digits (digit ∷ digits)
is_register _ = false

-- a letter, `_` or `.`
abbrev pub begins_name : ℕ → Bool
begins_name b = (nat_le 97 b && nat_le b 122) || ((nat_le 65 b && nat_le b 90) || (b == 95 || b == 46))

-- a word that may be given a meaning: it begins as a name, and is no register
abbrev pub is_name : List ℕ → Bool
is_name [] = false
is_name (b ∷ word) = begins_name b && not (is_register (b ∷ word))

-- what stands before a `:`, which is byte 58, at the end of a word
abbrev pub label_in : List ℕ → Option (List ℕ)
label_in [] = None
label_in (b ∷ word) =
    if slice_index (b ∷ word) (length word) == 58 then Some (take (length word) (b ∷ word)) else None

abbrev pub is_constant : List ℕ → Bool
is_constant word = bytes_eq word (codes ".equ")

-- the tokens of a line's instruction: those behind a label, and none of a constant
abbrev pub instruction_in : List (List ℕ) → List (List ℕ)
instruction_in [] = []
instruction_in (first ∷ rest) =
    if is_constant first then []
    else if is_some (label_in first) then rest
    else first ∷ rest

-- how many slots an instruction takes
abbrev pub slots_of : List (List ℕ) → ℕ
slots_of [] = 0
slots_of (name ∷ arguments) = if bytes_eq name (codes "lddw") || bytes_eq name (codes "ldmap") then 2 else 1

-- a number, or a `-` and a number
abbrev pub signed_in : List (List ℕ) → Option Meaning
signed_in (word ∷ []) = option_map (λ n. Number false n) (number_in word)
signed_in (sign ∷ word ∷ []) = if bytes_eq sign (codes "-") then option_map (λ n. Number true n) (number_in word) else None
signed_in _ = None

-- what is behind `.equ`: a name and a number
abbrev pub constant_in : List (List ℕ) → Option Binding
constant_in [] = None
constant_in (name ∷ number) = option_map (λ m. record { name = name; meaning = m }) (signed_in number)

abbrev pub named : List Binding → List ℕ → Option Meaning
named names name = option_map (λ b. b.meaning) (find (λ b. bytes_eq b.name name) names)

-- the names with one more, which line n gives
abbrev pub with_binding : List Binding → ℕ → Binding → Result (List Binding) SourceFault
with_binding names n b =
    if not (is_name b.name) then Err (fault.BadName n)
    else if is_some (named names b.name) then Err (fault.NameTwice n)
    else Ok (names ++ b ∷ [])

abbrev pub with_constant : List Binding → ℕ → Option Binding → Result (List Binding) SourceFault
with_constant names n None = Err (fault.BadConstant n)
with_constant names n (Some b) = with_binding names n b

abbrev pub with_label : List Binding → ℕ → ℕ → Option (List ℕ) → Result (List Binding) SourceFault
with_label names n slot None = Ok names
with_label names n slot (Some name) = with_binding names n (record { name = name; meaning = Place slot })

-- the names with that of line n, which so many slots stand before
abbrev pub with_line : List Binding → ℕ → ℕ → List (List ℕ) → Result (List Binding) SourceFault
with_line names n slot [] = Ok names
with_line names n slot (first ∷ rest) =
    if is_constant first then with_constant names n (constant_in rest)
    else with_label names n slot (label_in first)

-- the slots before the line behind this one
abbrev pub slots_after : ℕ → List ℕ → ℕ
slots_after slot line = slot + slots_of (instruction_in (tokens_of line))

-- the names with those of the lines, of which n stand before
unfoldable pub with_lines : Result (List Binding) SourceFault → ℕ → ℕ → List (List ℕ) → Result (List Binding) SourceFault
with_lines (Err f) n slot lines = Err f
with_lines (Ok names) n slot [] = Ok names
with_lines (Ok names) n slot (line ∷ lines) =
    with_lines (with_line names (n + 1) slot (tokens_of line)) (n + 1) (slots_after slot line) lines

-- the names of a source
abbrev pub names_in : List ℕ → Result (List Binding) SourceFault
names_in source = with_lines (Ok []) 0 0 (lines_of source)
