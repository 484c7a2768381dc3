-- The maps that names stand for: each name stands under its map's number.
use Rattle.std.specs.Prelude.{◌≡◌, ℕ, List, [], Option, Some, None, slice_get, unwrap_or}

-- the map that has the name, or none where no map has it
abbrev pub IsMapOf : List (List ℕ) → List ℕ → Option ℕ → Type 0
IsMapOf names name (Some map) = slice_get names map ≡ Some name
IsMapOf names name None = (map : ℕ) → slice_get names map ≡ Some name → ⊥

-- the name of a map; no bytes where there is no such map
abbrev pub map_name : List (List ℕ) → ℕ → List ℕ
map_name names map = unwrap_or (slice_get names map) []
