-- Keys that are linked in one way at most.
use Rattle.std.specs.Prelude.{◌≡◌, ℕ, List, [], ◌∷◌, ◌++◌}
use Rattle.table_words.specs.declared.moves.Move.{Move}
use Rattle.table_words.specs.declared.moves.Move.TheVariants.{Put}
use Rattle.table_words.specs.Layout.{Layout}
use Rattle.table_words.specs.Found.{IsLinkedUnder, BearsKey}

-- no key of the table is linked in two ways
abbrev pub AreLinkedOnce : Layout → ℕ → List (ℕ × Move) → Type 0
AreLinkedOnce k table es = (key : List ℕ) (one other : ℕ) →
    IsLinkedUnder k table key one es → IsLinkedUnder k table key other es → one ≡ other

-- after these steps the move puts no element in a way whose key is linked in another way
abbrev pub PutsNoKeyTwice : Layout → ℕ → List (ℕ × Move) → Move → Type 0
PutsNoKeyTwice k table es (Put way x) = (key : List ℕ) (other : ℕ) →
    BearsKey k table key es x → IsLinkedUnder k table key other es → other ≡ way
PutsNoKeyTwice k table es _ = Unit {0}

-- none of the late steps does so
abbrev pub PutNoKeyTwice : Layout → ℕ → List (ℕ × Move) → List (ℕ × Move) → Type 0
PutNoKeyTwice k table [] early = Unit {0}
PutNoKeyTwice k table (e ∷ late) early = PutsNoKeyTwice k table (late ++ early) e.1 × PutNoKeyTwice k table late early
