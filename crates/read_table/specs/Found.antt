-- A key that is there is found.
use Rattle.std.specs.Prelude.{◌≡◌, ◌≢◌, ℕ, ◌%◌, ◌<◌, List, [], ◌∷◌, ◌++◌, Some, None}
use Rattle.read_table.specs.declared.view.Move.{Move}
use Rattle.read_table.specs.declared.view.Move.TheVariants.{Header}
use Rattle.read_table.specs.declared.view.TableShape.{TableShape}
use Rattle.read_table.specs.declared.view.View.{View}
use Rattle.read_table.specs.History.{moves_of, header_in, word_at_place}
use Rattle.read_table.specs.Lookups.{key_word, AnswersLookup}

-- By all that was done the slot is linked, and its key words are the key's.
pub record IsLinkedUnder (k : TableShape) (key : List ℕ) (slot : ℕ) (es : List (ℕ × Move)) : Type 0
  where
    pub within : slot < k.slots
    pub linked : header_in slot (moves_of 0 es) % 2 ≡ 1
    pub words : (place : ℕ) → place < k.key_words →
        key_word key place ≡ Some (word_at_place slot place es)

-- none of the moves changes the slot's header
abbrev pub KeepsHeader : ℕ → List Move → Type 0
KeepsHeader slot [] = Unit {0}
KeepsHeader slot (Header s w ∷ ms) = (s ≢ slot) × KeepsHeader slot ms
KeepsHeader slot (_ ∷ ms) = KeepsHeader slot ms

-- Through all these moves of a holder, which he made after those before, the slot stayed linked under the key: it was so
-- at a moment between, and until after the last of them the writer didn't change its header.
pub record StaysLinked (k : TableShape) (key : List ℕ) (slot who : ℕ) (before ns : List Move)
    (es : List (ℕ × Move)) : Type 0 where
  pub newer : List (ℕ × Move)
  pub late : List (ℕ × Move)
  pub early : List (ℕ × Move)
  pub history : es ≡ newer ++ (late ++ early)
  pub before_are : moves_of who early ≡ before
  pub moves_are : moves_of who late ≡ ns
  pub was : IsLinkedUnder k key slot early
  pub kept : KeepsHeader slot (moves_of 0 late)

-- No stretch of the holder's list answers null to a key under which some slot stayed linked through it.
abbrev pub HasFound : View → Type 0
HasFound v = (key : List ℕ) (slot : ℕ) (before ns : List Move) →
    AnswersLookup v.shape key ns None →
    StaysLinked v.shape key slot v.me before ns v.seen → ⊥
