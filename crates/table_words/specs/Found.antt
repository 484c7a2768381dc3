-- Where a key is linked, and through which stretch.
use Rattle.std.specs.Prelude.{◌≡◌, ◌⊎◌, ℕ, List, [], ◌∷◌, ◌++◌}
use Rattle.table_words.specs.declared.moves.Move.{Move}
use Rattle.table_words.specs.declared.moves.Move.TheVariants.{Open, Close, Put}
use Rattle.table_words.specs.Layout.{Layout, Names}
use Rattle.table_words.specs.History.{moves_of, word_in, key_of, IsLinked}

-- By all that was done the way names this element, of this table, with this key.
pub record Links (k : Layout) (table : ℕ) (key : List ℕ) (way element : ℕ) (es : List (ℕ × Move)) : Type 0
  where
    pub names : Names (word_in way (moves_of 0 es)) element
    pub table_is : k.table_of element ≡ table
    pub key_is : key_of k element es ≡ key

-- the key is linked in the way, whatever element has it
abbrev pub IsLinkedUnder : Layout → ℕ → List ℕ → ℕ → List (ℕ × Move) → Type 0
IsLinkedUnder k table key way es = (element : ℕ) × Links k table key way element es

-- the key is linked, in whatever way
abbrev pub IsLinkedSomewhere : Layout → ℕ → List ℕ → List (ℕ × Move) → Type 0
IsLinkedSomewhere k table key es = (way : ℕ) × IsLinkedUnder k table key way es

-- the element is linked under the key, in whatever way
abbrev pub IsLinkedAs : Layout → ℕ → List ℕ → ℕ → List (ℕ × Move) → Type 0
IsLinkedAs k table key element es = (way : ℕ) × Links k table key way element es

-- it was so after the early steps, and after each of the late ones
abbrev pub Throughout : (List (ℕ × Move) → Type 0) → List (ℕ × Move) → List (ℕ × Move) → Type 0
Throughout p [] early = p early
Throughout p (e ∷ late) early = p (e ∷ (late ++ early)) × Throughout p late early

-- it was so after the early steps, or after some of the late ones
abbrev pub Sometime : (List (ℕ × Move) → Type 0) → List (ℕ × Move) → List (ℕ × Move) → Type 0
Sometime p [] early = p early
Sometime p (e ∷ late) early = p (e ∷ (late ++ early)) ⊎ Sometime p late early

-- The key stays linked in this way, from after the early steps until after the late ones, also where its element is
-- replaced by another.
abbrev pub StaysFound : Layout → ℕ → List ℕ → ℕ → List (ℕ × Move) → List (ℕ × Move) → Type 0
StaysFound k table key way late early = Throughout (IsLinkedUnder k table key way) late early

-- no way names the element, from after the early steps until after the late ones
abbrev pub StaysUnlinked : ℕ → List (ℕ × Move) → List (ℕ × Move) → Type 0
StaysUnlinked element late early = Throughout (λ es. IsLinked element (moves_of 0 es) → ⊥) late early

-- none of the moves begins or ends a section
abbrev pub StaysInside : List Move → Type 0
StaysInside [] = Unit {0}
StaysInside (Open ∷ ms) = ⊥
StaysInside (Close ∷ ms) = ⊥
StaysInside (_ ∷ ms) = StaysInside ms

-- the word names an element of the table with this key
abbrev pub BearsKey : Layout → ℕ → List ℕ → List (ℕ × Move) → ℕ → Type 0
BearsKey k table key es word =
    (element : ℕ) × Names word element × (k.table_of element ≡ table) × (key_of k element es ≡ key)

-- after these steps the move leaves the way, or puts an element of the table and with the key there
abbrev pub KeepsKey : Layout → ℕ → List ℕ → ℕ → List (ℕ × Move) → Move → Type 0
KeepsKey k table key way es (Put w x) = (w ≡ way → ⊥) ⊎ BearsKey k table key es x
KeepsKey k table key way es _ = Unit {0}

-- each of the late steps does so: the key's element is replaced by one store, or not at all
abbrev pub OnlyReplaces : Layout → ℕ → List ℕ → ℕ → List (ℕ × Move) → List (ℕ × Move) → Type 0
OnlyReplaces k table key way [] early = Unit {0}
OnlyReplaces k table key way (e ∷ late) early =
    KeepsKey k table key way (late ++ early) e.1 × OnlyReplaces k table key way late early
