-- When a reader sees a value as a whole.
use Rattle.std.specs.Prelude.{◌≡◌, ℕ, List, [], ◌∷◌}
use Rattle.table_words.specs.declared.moves.Move.{Move}
use Rattle.table_words.specs.declared.moves.Move.TheVariants.{Store}

-- no reader stores in the element by these steps: what is stored there is the writer's
abbrev pub OnlyWriterStores : ℕ → List (ℕ × Move) → Type 0
OnlyWriterStores element [] = Unit {0}
OnlyWriterStores element (e ∷ es) =
    ((place word : ℕ) → e.1 ≡ Store element place word → e.0 ≡ 0) × OnlyWriterStores element es
