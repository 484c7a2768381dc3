-- What a search of some ways for a key found, as a stretch of its seat's list.
use Rattle.std.specs.Prelude.{◌≡◌, ◌≢◌, ◌⊎◌, ℕ, ◌<◌, ◌≤◌, List, [], ◌∷◌, ◌++◌, Option, Some, None, slice_index}
use Rattle.table_words.specs.declared.moves.Move.{Move}
use Rattle.table_words.specs.declared.moves.Move.TheVariants.{Load}
use Rattle.table_words.specs.History.{moves_of}
use Rattle.table_words.specs.Lookups.{FoundIn, HadWord, Refuted}
use Rattle.table_words.specs.Found.{IsLinkedAs, Sometime, StaysFound}
use Rattle.table_words.specs.declared.view.TableShape.{TableShape}
use Rattle.map_table.specs.Hashes.{layout_of}

-- each word of the key was found in the element
abbrev pub HadKey : TableShape → List ℕ → ℕ → List Move → Type 0
HadKey k key element ms = (place : ℕ) → place < k.key_words → HadWord element place (slice_index key place) ms

-- another word of a key was found in the element
abbrev pub HadOther : TableShape → List ℕ → ℕ → List Move → Type 0
HadOther k key element [] = ⊥
HadOther k key element (Load e p x ∷ ms) =
    ((e ≡ element) × (p < k.key_words) × (x ≢ slice_index key p)) ⊎ HadOther k key element ms
HadOther k key element (_ ∷ ms) = HadOther k key element ms

-- The ways from one on and below another were searched: each was found without the key, or one with it.
abbrev pub Searched : TableShape → List ℕ → ℕ → ℕ → List Move → Option ℕ → Type 0
Searched k key low high ms None =
    (way : ℕ) → low ≤ way → way < high → Refuted (layout_of k) 0 key way ms
Searched k key low high ms (Some element) =
    ((way : ℕ) × (low ≤ way) × (way < high) × FoundIn way element ms) × HadKey k key element ms
    × (element < k.elements)

-- Through all these moves of a holder, which he made after those before, the key stayed linked in one way, also where its
-- element was replaced.
pub record StaysThere (k : TableShape) (key : List ℕ) (who : ℕ) (before ns : List Move)
    (es : List (ℕ × Move)) : Type 0 where
  pub way : ℕ
  pub newer : List (ℕ × Move)
  pub late : List (ℕ × Move)
  pub early : List (ℕ × Move)
  pub history : es ≡ newer ++ (late ++ early)
  pub before_are : moves_of who early ≡ before
  pub moves_are : moves_of who late ≡ ns
  pub stays : StaysFound (layout_of k) 0 key way late early

-- Of all stretches of a history in which a holder made just these moves, after those before, each has a moment at which the
-- element was linked under the key.
abbrev pub WasThere : TableShape → List ℕ → ℕ → ℕ → List Move → List Move → List (ℕ × Move) → Type 0
WasThere k key element who before ns es =
    (newer late early : List (ℕ × Move)) → es ≡ newer ++ (late ++ early) → moves_of who early ≡ before →
    moves_of who late ≡ ns → Sometime (IsLinkedAs (layout_of k) 0 key element) late early
