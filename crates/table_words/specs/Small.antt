-- A small history, worked by hand: one reader, one table, keys of one word, values of one. A key is linked, found and
-- held while its value is replaced; its first element is filled anew after the reader was seen outside, or in another
-- section.
use Rattle.std.specs.Prelude.{ℕ, ◌+◌, ◌*◌, ◌^◌, List, [], ◌∷◌}
use Rattle.table_words.specs.declared.moves.Move.{Move}
use Rattle.table_words.specs.declared.moves.Move.TheVariants.{Open, Close, Learn, Load, Store, Put, Double, Scan}
use Rattle.table_words.specs.Layout.{Layout}

-- each key may be linked in the buckets 0 and 1, with the tag 7
abbrev pub small : Layout
small = record {
  readers = 1;
  elements = 2;
  table_of = λ element. 0;
  key_words = λ table. 1;
  owner = λ table place. 0;
  first = λ table key. 0;
  second = λ table key. 1;
  tag = λ table key. 7;
}

-- the word that names an element
abbrev pub naming : ℕ → ℕ
naming element = 7 * 2 ^ 32 + (element + 1)

-- the writer fills the element 0 with the key 5 and the value 50, and links it in the way 9
abbrev pub linked : List (ℕ × Move)
linked = (0, Put 9 (naming 0)) ∷ (0, Store 0 1 50) ∷ (0, Store 0 0 5) ∷ []

-- the reader finds it
abbrev pub found : List (ℕ × Move)
found = (1, Load 0 0 5) ∷ (1, Learn 9 (naming 0)) ∷ (1, Open) ∷ linked

-- The writer moves the key: it writes the word of the way 9 in the way 1 as well. The reader ends its section. The writer
-- finds it outside, and empties the way 9.
abbrev pub moved : List (ℕ × Move)
moved = (0, Put 9 0) ∷ (0, Scan 1 2) ∷ (1, Close) ∷ (0, Double 9 1 (naming 0)) ∷ found

-- as it would be without the look, while the reader is inside
abbrev pub moved_too_early : List (ℕ × Move)
moved_too_early = (0, Put 9 0) ∷ (0, Double 9 1 (naming 0)) ∷ found

-- it takes the move back, and empties the way 1 while the reader is inside
abbrev pub moved_back : List (ℕ × Move)
moved_back = (0, Put 1 0) ∷ (0, Double 9 1 (naming 0)) ∷ found

-- the writer replaces the value: the element 1 has the same key, and the value 51
abbrev pub replaced : List (ℕ × Move)
replaced = (0, Put 9 (naming 1)) ∷ (0, Store 1 1 51) ∷ (0, Store 1 0 5) ∷ found

-- the reader, which holds the element 0, loads its value, stores another there, and ends its section
abbrev pub left : List (ℕ × Move)
left = (1, Close) ∷ (1, Store 0 1 60) ∷ (1, Load 0 1 50) ∷ replaced

-- the writer sees it outside, and fills the element 0 anew
abbrev pub reused : List (ℕ × Move)
reused = (0, Put 1 (naming 0)) ∷ (0, Store 0 0 6) ∷ (0, Scan 1 2) ∷ left

-- The writer finds the reader inside. The reader ends its section, begins another, and finds the element 1. The writer
-- finds another number, and fills the element 0 anew while the reader is inside.
abbrev pub reused_beside : List (ℕ × Move)
reused_beside =
    (0, Store 0 0 6) ∷ (0, Scan 1 3) ∷ (1, Learn 9 (naming 1)) ∷ (1, Open) ∷ (1, Close) ∷ (0, Scan 1 1) ∷ replaced

-- the same where the reader stays in its section: both scans find one number
abbrev pub scanned_twice : List (ℕ × Move)
scanned_twice = (0, Scan 1 1) ∷ (0, Scan 1 1) ∷ replaced

-- as it would be without the scan, while the reader is inside
abbrev pub reused_too_early : List (ℕ × Move)
reused_too_early = (0, Store 0 0 6) ∷ replaced

-- as it would be where one number, found twice, were taken for two
abbrev pub reused_by_one_number : List (ℕ × Move)
reused_by_one_number = (0, Store 0 0 6) ∷ scanned_twice
