-- The lines of a stream of bytes.
use Rattle.std.specs.Prelude.{ℕ, ◌==◌, ◌≢◌, List, [], ◌∷◌, ◌++◌, if◌then◌else◌}
use Rattle.std.specs.List.{AllByRecursion, onto_first}

-- A line feed (10) ends a line; the last line may lack it.
abbrev pub lines_of : List ℕ → List (List ℕ)
lines_of [] = []
lines_of (b ∷ bytes) = if b == 10 then [] ∷ lines_of bytes else onto_first b (lines_of bytes)

-- lines with their line feeds
abbrev pub ended : List (List ℕ) → List ℕ
ended [] = []
ended (line ∷ lines) = line ++ 10 ∷ ended lines

abbrev pub HasNoFeed : List ℕ → Type 0
HasNoFeed bytes = AllByRecursion (λ b. b ≢ 10) bytes

abbrev pub HaveNoFeed : List (List ℕ) → Type 0
HaveNoFeed lines = AllByRecursion HasNoFeed lines
