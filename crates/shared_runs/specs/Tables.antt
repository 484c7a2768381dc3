-- What a table is to the runs that it serves.
use Rattle.std.specs.Prelude.{◌≡◌, ℕ, ◌*◌, ◌^◌, ◌<◌, ◌≤◌, List, [], ◌∷◌, ◌++◌, Option, Some}
use Rattle.bpf_model.specs.declared.limits.MapShape.{MapShape}
use Rattle.world_laws.specs.Around.{regions}

-- Which maps of a program it keeps, which moves a reader makes, and what it holds by those that it made. A map is named by
-- its index in the program's list. Lists of moves have the newest first.
pub record Table : Type 1 where
  pub Move : Type 0
  -- how many elements there are; they are numbered from 0
  pub elements : ℕ
  -- it keeps a map of this index, of this shape
  pub Keeps : ℕ → MapShape → Type 0
  -- how many words a key of each map has, and how many a value of any has at most
  pub key_words : ℕ → ℕ
  pub value_words : ℕ
  -- a reader begins a section, and ends it
  pub begins : Move
  pub ends : Move
  -- a word of a value is found, or written: the element, the place in its value, and the word
  pub finds : ℕ → ℕ → ℕ → Move
  pub writes : ℕ → ℕ → ℕ → Move
  -- 1 after these moves of a reader inside a section, and 0 outside
  pub inside : List Move → ℕ
  -- by these moves of a reader it may use the element in the section that is open
  pub Holds : ℕ → List Move → Type 0
  -- The moves are a lookup in a map of the key of these bytes: null, or an element, is answered.
  pub LooksUp : ℕ → List ℕ → List Move → Option ℕ → Type 0

-- What every table keeps. A map that it keeps has keys of just so many words, and no longer values than its elements. A
-- section is the reader's own. A word that is found or written, and a lookup, leave the section
-- and what is held. A lookup that answers an element leaves it held. What is held by some moves is held by those and others
-- before them.
pub record IsTable (k : Table) : Type 0 where
  pub kept_key : (map : ℕ) (shape : MapShape) → k.Keeps map shape →
      shape.key_len ≡ 8 * k.key_words map
  pub kept_value : (map : ℕ) (shape : MapShape) → k.Keeps map shape →
      shape.value_len ≤ 8 * k.value_words
  pub outside : k.inside [] ≡ 0
  pub begun : (ms : List k.Move) → k.inside (k.begins ∷ ms) ≡ 1
  pub ended : (ms : List k.Move) → k.inside (k.ends ∷ ms) ≡ 0
  pub find_inside : (element place word : ℕ) (ms : List k.Move) →
      k.inside (k.finds element place word ∷ ms) ≡ k.inside ms
  pub find_holds : (element place word other : ℕ) (ms : List k.Move) → k.Holds other ms →
      k.Holds other (k.finds element place word ∷ ms)
  pub write_inside : (element place word : ℕ) (ms : List k.Move) →
      k.inside (k.writes element place word ∷ ms) ≡ k.inside ms
  pub write_holds : (element place word other : ℕ) (ms : List k.Move) → k.Holds other ms →
      k.Holds other (k.writes element place word ∷ ms)
  pub lookup_inside : (map : ℕ) (key : List ℕ) (ns ms : List k.Move) (found : Option ℕ) →
      k.LooksUp map key ns found → k.inside (ns ++ ms) ≡ k.inside ms
  pub lookup_holds : (map : ℕ) (key : List ℕ) (ns ms : List k.Move) (found : Option ℕ) →
      k.LooksUp map key ns found → (other : ℕ) → k.Holds other ms → k.Holds other (ns ++ ms)
  pub hit_within : (map : ℕ) (key : List ℕ) (ns : List k.Move) (element : ℕ) →
      k.LooksUp map key ns (Some element) → element < k.elements
  pub hit_holds : (map : ℕ) (key : List ℕ) (ns ms : List k.Move) (element : ℕ) →
      k.LooksUp map key ns (Some element) → k.Holds element (ns ++ ms)
  pub holds_over : (element : ℕ) (ms before : List k.Move) → k.Holds element ms →
      k.Holds element (ms ++ before)
  pub inside_over : (ms before : List k.Move) → k.inside before ≡ 0 →
      k.inside (ms ++ before) ≡ k.inside ms

-- The table's elements have words, and its values are short.
pub record IsSmall (k : Table) : Type 0 where
  pub few : k.elements ≤ regions
  pub short : k.value_words ≤ 2 ^ 20

-- What a seat's lists are: that it is at the table, what it has done, and that it did just these moves more.
pub record AreSteps {Seat : Type 0} (k : Table) (IsAt : Seat → Type 0) (mine : Seat → List k.Move)
    (Goes : Seat → List k.Move → Seat → Type 0) : Type 0 where
  pub none : (s : Seat) → IsAt s → Goes s [] s
  pub then : (s t u : Seat) (ms ns : List k.Move) → Goes s ms t → Goes t ns u → Goes s (ns ++ ms) u
  pub listed : (s t : Seat) (ms : List k.Move) → Goes s ms t → mine t ≡ ms ++ mine s
  pub stays : (s t : Seat) (ms : List k.Move) → IsAt s → Goes s ms t → IsAt t
