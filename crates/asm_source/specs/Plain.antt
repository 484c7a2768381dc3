-- The plain text of a source: that of the fixed assembly language, line for line.
use Rattle.std.specs.Prelude.{ℕ, ◌==◌, ◌+◌, ◌-◌, Bool, true, false, ◌||◌, ◌&&◌, nat_lt, if◌then◌else◌}
use Rattle.std.specs.Prelude.{List, [], ◌∷◌, ◌++◌, codes, bytes_eq, Option, Some, None, Result, Ok, Err}
use Rattle.disasm.specs.Text.{numeral}
use Rattle.asm_source.specs.Tokens.{lines_of, tokens_of, begins_word}
use Rattle.asm_source.specs.Numbers.{hex_in}
use Rattle.asm_source.specs.Names.{Binding, is_register, is_name, instruction_in, slots_after, named, names_in}
use Rattle.asm_source.specs.declared.names.Meaning.{Meaning}
use Rattle.asm_source.specs.declared.names.Meaning.TheVariants.{Place, Number}
use Rattle.asm_source.specs.declared.site.Role.{Role}
use Rattle.asm_source.specs.declared.site.Role.TheVariants as role
use Rattle.asm_source.specs.declared.site.Site.{Site}
use Rattle.asm_source.specs.declared.fault.SourceFault.{SourceFault}
use Rattle.asm_source.specs.declared.fault.SourceFault.TheVariants as fault

-- The meaning of names: those of the source, and the indices of maps.
pub record Meanings : Type 0 where
  pub names : List Binding
  pub map : List ℕ → Option ℕ

-- the sign of a number and the number
abbrev pub number_text : Bool → ℕ → List ℕ
number_text true n = 45 ∷ numeral n
number_text false n = numeral n

-- a jump behind so many slots, to a place: the slots in between, with a sign
abbrev pub distance_text : ℕ → ℕ → List ℕ
distance_text slot place = if nat_lt slot place then 43 ∷ numeral (place - (slot + 1)) else 45 ∷ numeral (slot + 1 - place)

abbrev pub meaning_text : List ℕ → Option Meaning → List ℕ
meaning_text word (Some (Number minus n)) = number_text minus n
meaning_text word _ = word

abbrev pub value_text : Option ℕ → List ℕ → List ℕ
value_text (Some n) other = numeral n
value_text None other = other

-- a word is a number in hexadecimal, or the name of a constant, or stays as it is
abbrev pub word_text : List Binding → List ℕ → List ℕ
word_text names word = value_text (hex_in word) (meaning_text word (named names word))

-- what the last word of an instruction may name
abbrev pub role_of : List ℕ → Role
role_of [] = role.Plain
role_of (b ∷ name) =
    if b == 106 then role.Jump
    else if bytes_eq (b ∷ name) (codes "ldmap") then role.LoadMap
    else role.Plain

abbrev pub label_text : Site → Option Meaning → Result (List ℕ) SourceFault
label_text site (Some (Place place)) = Ok (distance_text site.slot place)
label_text site _ = Err (fault.UnknownLabel site.line)

abbrev pub map_text : Site → Option ℕ → Result (List ℕ) SourceFault
map_text site (Some index) = Ok (numeral index)
map_text site None = Err (fault.UnknownMap site.line)

-- what a name at an instruction's end stands for: a jump's may be a label, and that of `ldmap` a map
abbrev pub name_text : Meanings → Site → Role → List ℕ → Result (List ℕ) SourceFault
name_text m site role.Jump word = label_text site (named m.names word)
name_text m site role.LoadMap word = map_text site (m.map word)
name_text m site role.Plain word = Ok (word_text m.names word)

abbrev pub last_text : Meanings → Site → List ℕ → Result (List ℕ) SourceFault
last_text m site word = if is_name word then name_text m site site.role word else Ok (word_text m.names word)

-- a `]` directly behind a register closes an offset of 0
abbrev pub closes : List ℕ → List ℕ → Bool
closes before token = bytes_eq token (codes "]") && is_register before

abbrev pub token_text : Meanings → Site → List ℕ → List ℕ → Bool → Result (List ℕ) SourceFault
token_text m site before token is_last =
    if closes before token then Ok (codes "+0]")
    else if is_last then last_text m site token
    else Ok (word_text m.names token)

-- a space is behind a comma, and parts two words
abbrev pub gap : List ℕ → List ℕ → List ℕ
gap before token =
    if bytes_eq before (codes ",") || (begins_word before && begins_word token) then codes " " else []

-- the text of a token behind the gap, and that of what follows it
abbrev pub joined : List ℕ → Result (List ℕ) SourceFault → Result (List ℕ) SourceFault → Result (List ℕ) SourceFault
joined between (Ok text) (Ok rest) = Ok (between ++ text ++ rest)
joined between (Ok text) (Err f) = Err f
joined between (Err f) rest = Err f

-- a text behind another
abbrev pub prepended : List ℕ → Result (List ℕ) SourceFault → Result (List ℕ) SourceFault
prepended front (Ok text) = Ok (front ++ text)
prepended front (Err f) = Err f

abbrev pub is_end : List (List ℕ) → Bool
is_end [] = true
is_end (token ∷ rest) = false

-- the tokens behind this one
unfoldable pub tokens_text : Meanings → Site → List ℕ → List (List ℕ) → Result (List ℕ) SourceFault
tokens_text m site before [] = Ok []
tokens_text m site before (token ∷ rest) =
    joined (gap before token) (token_text m site before token (is_end rest)) (tokens_text m site token rest)

-- an instruction: a space is behind its mnemonic as behind a comma
abbrev pub instruction_text : Meanings → ℕ → ℕ → List (List ℕ) → Result (List ℕ) SourceFault
instruction_text m line slot [] = Ok []
instruction_text m line slot (name ∷ rest) =
    joined [] (Ok name) (tokens_text m (record { role = role_of name; line = line; slot = slot }) (codes ",") rest)

abbrev pub line_text : Meanings → ℕ → ℕ → List ℕ → Result (List ℕ) SourceFault
line_text m n slot line = instruction_text m n slot (instruction_in (tokens_of line))

-- a text, where there is one, with a line feed behind it
abbrev pub fed : Result (List ℕ) SourceFault → Result (List ℕ) SourceFault
fed (Ok text) = Ok (text ++ 10 ∷ [])
fed (Err f) = Err f

-- the text of the lines, of which n stand before, and so many slots
unfoldable pub lines_text : Meanings → ℕ → ℕ → List (List ℕ) → Result (List ℕ) SourceFault
lines_text m n slot [] = Ok []
lines_text m n slot (line ∷ lines) =
    joined [] (fed (line_text m (n + 1) slot line)) (lines_text m (n + 1) (slots_after slot line) lines)

abbrev pub text_with : (List ℕ → Option ℕ) → List ℕ → Result (List Binding) SourceFault → Result (List ℕ) SourceFault
text_with map source (Err f) = Err f
text_with map source (Ok names) = lines_text (record { names = names; map = map }) 0 0 (lines_of source)

-- the plain text of a source, or why it has none
abbrev pub plain : (List ℕ → Option ℕ) → List ℕ → Result (List ℕ) SourceFault
plain map source = text_with map source (names_in source)
