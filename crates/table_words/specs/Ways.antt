-- The ways of the two buckets of a key.
use Rattle.std.specs.Prelude.{◌⊎◌, ℕ, ◌+◌, ◌<◌, ◌≤◌}
use Rattle.table_words.specs.Layout.{bucket_ways}

-- the way is of one of two buckets, which begin at these ways
abbrev pub IsOfBoth : ℕ → ℕ → ℕ → Type 0
IsOfBoth first second way =
    ((first ≤ way) × (way < first + bucket_ways)) ⊎ ((second ≤ way) × (way < second + bucket_ways))
