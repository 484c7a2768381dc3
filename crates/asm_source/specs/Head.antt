-- The lines above a line `code`, as they are read.
use Rattle.std.specs.Prelude.{ℕ, List, [], ◌∷◌, ◌++◌, flat_map}
use Rattle.asm_source.specs.Tokens.{lines_of, tokens_of}

-- A line of these tokens, parted by a space, which is byte 32, and ended by a line feed. A line without any, as an
-- empty one or a comment alone, is left out.
abbrev pub line_of_tokens : List (List ℕ) → List ℕ
line_of_tokens [] = []
line_of_tokens (first ∷ rest) = first ++ (flat_map (λ token. 32 ∷ token) rest ++ 10 ∷ [])

-- the lines of a head without comments, and without blanks that are too many
abbrev pub head_text : List ℕ → List ℕ
head_text head = flat_map (λ line. line_of_tokens (tokens_of line)) (lines_of head)
