use Rattle.table_words.proofs.Prelude.{◌≡◌, ℕ, ◌<◌, ◌≤◌, length}
use Rattle.table_words.specs.Sightings.{sighting_at, IsLowered}
use Rattle.table_words.proofs.notes.lower_each.Given as goal

abbrev pub invariant-loop-at : goal.invariant-loop-at
invariant-loop-at l = (length l.seen.items ≡ length l.fn.seen.items) ×
    ((j : ℕ) → j < l.at → IsLowered l.by (sighting_at l.fn.seen.items j) (sighting_at l.seen.items j)) ×
    ((j : ℕ) → l.at ≤ j → sighting_at l.seen.items j ≡ sighting_at l.fn.seen.items j)
