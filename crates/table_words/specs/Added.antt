-- A word to which everybody only adds.
use Rattle.std.specs.Prelude.{◌≡◌, ◌⊎◌, ℕ, ◌+◌, ◌%◌, ◌^◌, List, [], ◌∷◌}
use Rattle.table_words.specs.declared.moves.Move.{Move}
use Rattle.table_words.specs.declared.moves.Move.TheVariants.{Load, Store}

-- the move stores nothing at the place
abbrev pub StoresNothingAt : ℕ → ℕ → Move → Type 0
StoresNothingAt element place m = (word : ℕ) → m ≡ Store element place word → ⊥

-- All that these steps, the newest first, store at the place is added: right before each such store the same holder loads the word
-- there, and stores an amount more, modulo 2^64. The total is the sum of the amounts.
abbrev pub OnlyAdds : ℕ → ℕ → List (ℕ × Move) → ℕ → Type 0
OnlyAdds element place [] total = total ≡ 0
OnlyAdds element place (e ∷ []) total = StoresNothingAt element place e.1 × (total ≡ 0)
OnlyAdds element place (e ∷ (f ∷ es)) total =
    (StoresNothingAt element place e.1 × OnlyAdds element place (f ∷ es) total)
    ⊎ ((word amount rest : ℕ) × (e.0 ≡ f.0) × (f.1 ≡ Load element place word)
    × (e.1 ≡ Store element place ((word + amount) % 2 ^ 64)) × OnlyAdds element place es rest
    × (total ≡ rest + amount))
