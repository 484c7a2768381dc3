-- The sum of a word of each value of an element.
use Rattle.std.specs.Prelude.{◌≡◌, ℕ, zero, suc, ◌+◌, ◌*◌, ◌%◌, ◌^◌, List, [], ◌∷◌}
use Rattle.table_words.specs.declared.moves.Move.{Move}
use Rattle.table_words.specs.declared.moves.Move.TheVariants.{Load}

-- So many words of an element were loaded, that at this place first, and each so many places behind the one before. The
-- words that were found add up to the total, modulo 2^64.
abbrev pub AddsUp : ℕ → ℕ → ℕ → ℕ → List Move → ℕ → Type 0
AddsUp element place apart zero ms total = (ms ≡ []) × (total ≡ 0)
AddsUp element place apart (suc n) ms total =
    (rest : List Move) × (before word : ℕ) × (ms ≡ Load element (place + n * apart) word ∷ rest)
    × AddsUp element place apart n rest before × (total ≡ (before + word) % 2 ^ 64)
