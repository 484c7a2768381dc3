-- What the writer does while it links and unlinks nothing (`OnlyMoves`), and while it keeps a key linked (`OnlyKeeps`).
use Rattle.std.specs.Prelude.{◌⊎◌, ℕ, List, [], ◌∷◌, ◌++◌}
use Rattle.table_words.specs.declared.moves.Move.{Move}
use Rattle.table_words.specs.declared.moves.Move.TheVariants.{Put}
use Rattle.table_words.specs.Layout.{Layout}
use Rattle.table_words.specs.History.{moves_of, IsMoving}
use Rattle.table_words.specs.Found.{IsLinkedUnder, BearsKey}

-- By these moves, which the writer makes after those before, it puts a word in a way only to end a move.
abbrev pub OnlyMoves : List Move → List Move → Type 0
OnlyMoves [] before = Unit {0}
OnlyMoves (Put way x ∷ ms) before = ((from to : ℕ) × IsMoving from to (ms ++ before)) × OnlyMoves ms before
OnlyMoves (_ ∷ ms) before = OnlyMoves ms before

-- After these steps the move leaves each way in which the key is linked, or puts another element with the key there, or ends
-- a move.
abbrev pub Keeps : Layout → ℕ → List ℕ → List (ℕ × Move) → Move → Type 0
Keeps k table key es (Put way x) =
    (IsLinkedUnder k table key way es → ⊥) ⊎ (BearsKey k table key es x ⊎ ((from to : ℕ) × IsMoving from to (moves_of 0 es)))
Keeps k table key es _ = Unit {0}

-- each of the late steps does so
abbrev pub OnlyKeeps : Layout → ℕ → List ℕ → List (ℕ × Move) → List (ℕ × Move) → Type 0
OnlyKeeps k table key [] early = Unit {0}
OnlyKeeps k table key (e ∷ late) early = Keeps k table key (late ++ early) e.1 × OnlyKeeps k table key late early
