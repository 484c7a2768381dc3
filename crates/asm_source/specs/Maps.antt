-- The names of maps, and what names stand for by the lists that a call is given.
use Rattle.std.specs.Prelude.{ℕ, ◌==◌, ◌&&◌, not, if◌then◌else◌, List, [], ◌∷◌, ◌++◌, map, Option, Some, None, bytes_eq}
use Rattle.std.specs.List.{position, take_while}
use Rattle.std.specs.Option.{option_to_list}
use Rattle.std.proofs.Common.{Bor}
use Rattle.asm_source.specs.Tokens.{lines_of}
use Rattle.asm_source.specs.Plain.{Meanings}
use Rattle.asm_source.specs.declared.words.Given.{Given}

-- the index of a name in a list
abbrev pub index_in : List (List ℕ) → List ℕ → Option ℕ
index_in names name = position (λ n. bytes_eq n name) names

abbrev pub texts : List (Bor (List ℕ)) → List (List ℕ)
texts names = map (λ n. n.now) names

abbrev pub meanings_of : Given → Meanings
meanings_of given = record { names = given.names.now; map = index_in (texts given.maps.now) }

-- the bytes before the first space, which is byte 32
abbrev pub first_word : List ℕ → List ℕ
first_word text = take_while (λ b. not (b == 32)) text

-- the name in a line `map NAME ..` of a program file's head
abbrev pub map_name_in : List ℕ → Option (List ℕ)
map_name_in (a ∷ b ∷ c ∷ d ∷ words) =
    if a == 109 && (b == 97 && (c == 112 && d == 32)) then Some (first_word words) else None
map_name_in _ = None

abbrev pub map_names_in : List (List ℕ) → List (List ℕ)
map_names_in [] = []
map_names_in (line ∷ lines) = option_to_list (map_name_in line) ++ map_names_in lines

-- the names of the maps of a head, in their order
abbrev pub maps_in : List ℕ → List (List ℕ)
maps_in head = map_names_in (lines_of head)
