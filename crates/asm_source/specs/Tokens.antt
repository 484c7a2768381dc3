-- The lines of a source, and the tokens of a line.
use Rattle.std.specs.Prelude.{ℕ, ◌==◌, Bool, false, not, ◌||◌, ◌&&◌, if◌then◌else◌, List, [], ◌∷◌}
use Rattle.std.specs.List.{onto_first}

-- a line ends at a line feed, which is byte 10, and the last one at the end of the source
abbrev pub lines_of : List ℕ → List (List ℕ)
lines_of [] = []
lines_of (b ∷ text) = if b == 10 then [] ∷ lines_of text else onto_first b (lines_of text)

-- a space, a tab, a carriage return
abbrev pub is_blank : ℕ → Bool
is_blank b = b == 32 || (b == 9 || b == 13)

-- `+` `,` `-` `[` `]`
abbrev pub is_mark : ℕ → Bool
is_mark b = b == 43 || (b == 44 || (b == 45 || (b == 91 || b == 93)))

-- a byte of a word: no blank, no mark, and no `;`, which is byte 59
abbrev pub is_letter : ℕ → Bool
is_letter b = not (is_blank b || (is_mark b || b == 59))

abbrev pub begins_word : List ℕ → Bool
begins_word [] = false
begins_word (b ∷ line) = is_letter b

-- The tokens of a line: each mark, and each word, which goes on to the next blank or mark. A `;` begins a comment.
abbrev pub tokens_of : List ℕ → List (List ℕ)
tokens_of [] = []
tokens_of (b ∷ line) =
    if b == 59 then []
    else if is_blank b then tokens_of line
    else if is_letter b && begins_word line then onto_first b (tokens_of line)
    else (b ∷ []) ∷ tokens_of line
