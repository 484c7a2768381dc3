-- What a reader finds that learns one way after another in a section.
use Rattle.std.specs.Prelude.{◌≡◌, ◌⊎◌, ℕ, ◌<◌, List, [], ◌∷◌, ◌++◌}
use Rattle.table_words.specs.declared.moves.Move.{Move}
use Rattle.table_words.specs.declared.moves.Move.TheVariants.{Learn}
use Rattle.table_words.specs.Layout.{Layout, Names}
use Rattle.table_words.specs.Found.{Links}
use Rattle.table_words.specs.Scanned.{LookedAt}

-- each way from 0 on below n was learnt
abbrev pub LearnsEach : ℕ → List Move → Type 0
LearnsEach n ms = (way : ℕ) → way < n → LookedAt way ms

-- By this step, made after all these, the holder found the element in the way. By these, it was linked there under the key.
pub record MeetsNow (k : Layout) (table : ℕ) (key : List ℕ) (who way element : ℕ) (e : ℕ × Move)
    (es : List (ℕ × Move)) : Type 0 where
  pub word : ℕ
  pub who_is : e.0 ≡ who
  pub learns : e.1 ≡ Learn way word
  pub names : Names word element
  pub linked : Links k table key way element es

-- by one of the late steps it did so
abbrev pub Meets : Layout → ℕ → List ℕ → ℕ → ℕ → ℕ → List (ℕ × Move) → List (ℕ × Move) → Type 0
Meets k table key who way element [] early = ⊥
Meets k table key who way element (e ∷ late) early =
    MeetsNow k table key who way element e (late ++ early) ⊎ Meets k table key who way element late early
