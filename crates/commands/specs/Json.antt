-- What is written as one JSON object (RFC 8259).
use Rattle.std.specs.Prelude.{ℕ, ◌==◌, ◌||◌, nat_lt, if◌then◌else◌, List, [], ◌∷◌, ◌++◌, codes, length, take, drop, Option, Some, None}
use Rattle.std.specs.List.{flat_map}
use Rattle.std.specs.Fmt.{decimal}
use Rattle.hex.specs.Hex.{encode_lower}
use Rattle.commands.specs.declared.refusal.CommandRefusal.{CommandRefusal}
use Rattle.commands.specs.Refusals.{command_number, command_slot, command_line}

abbrev pub number_json : Option ℕ → List ℕ
number_json None = codes "null"
number_json (Some n) = decimal n

-- a program of so many instructions and slots
abbrev pub accepted_json : ℕ → ℕ → List ℕ
accepted_json instructions slots =
    codes "{\"accepted\":true,\"instructions\":" ++ (decimal instructions
    ++ (codes ",\"slots\":" ++ (decimal slots ++ codes "}\n")))

-- A byte between the quotes of a string: a quote, a backslash and a control character are escaped. For a line feed, which is
-- byte 10, `feed` stands.
abbrev pub byte_json : List ℕ → ℕ → List ℕ
byte_json feed b =
    if b == 10 then feed
    else if b == 34 || b == 92 then 92 ∷ b ∷ []
    else if nat_lt b 32 then codes "\\u00" ++ encode_lower (b ∷ [])
    else b ∷ []

abbrev pub string_json : List ℕ → List ℕ
string_json text = codes "\"" ++ (flat_map (byte_json (codes "\\n")) text ++ codes "\"")

-- the name of a refusal, and what it means
abbrev pub words_json : List ℕ → List ℕ → List ℕ
words_json name meaning = codes ",\"name\":" ++ (string_json name ++ (codes ",\"text\":" ++ string_json meaning))

-- why a file is refused, with the name of that and what it means
abbrev pub refusal_json : CommandRefusal → List ℕ → List ℕ → List ℕ
refusal_json v name meaning =
    codes "{\"accepted\":false,\"code\":" ++ (decimal (command_number v) ++ (codes ",\"slot\":" ++ (number_json (command_slot v)
    ++ (codes ",\"line\":" ++ (number_json (command_line v) ++ (words_json name meaning ++ codes "}\n"))))))

-- The lines of a text, each of which a line feed ends, as a list of strings. A feed ends a string and begins the next.
abbrev pub lines_json : List ℕ → List ℕ
lines_json [] = codes "[]"
lines_json (b ∷ text) = codes "[\"" ++ (flat_map (byte_json (codes "\",\"")) (take (length text) (b ∷ text)) ++ codes "\"]")

-- a run that exits with the value by its n-th step, and the lines of what is in its maps
abbrev pub ended_json : ℕ → ℕ → List ℕ → List ℕ
ended_json value n dumped =
    codes "{\"accepted\":true,\"exit\":" ++ (decimal value ++ (codes ",\"steps\":" ++ (decimal n
    ++ (codes ",\"dump\":" ++ (lines_json dumped ++ codes "}\n")))))

-- the lines of a run's steps, and behind them what an object that tells the run alone has
abbrev pub traced_json : List ℕ → List ℕ → List ℕ
traced_json steps ended = codes "{\"trace\":" ++ (lines_json steps ++ (codes "," ++ drop 1 ended))
