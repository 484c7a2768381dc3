use Rattle.table_words.proofs.Prelude.{◌≡◌, ◌⊎◌, ℕ, ◌<◌, ◌≤◌, length}
use Rattle.table_words.specs.Sightings.{sighting_at}
use Rattle.table_words.proofs.notes.least_of.Given as goal

abbrev pub invariant-loop-at : goal.invariant-loop-at
invariant-loop-at l = (l.least ≤ l.most) × ((j : ℕ) → j < l.at → l.least ≤ (sighting_at l.seen j).cleared) ×
    ((l.least ≡ l.most) ⊎ ((j : ℕ) × (j < length l.seen) × ((sighting_at l.seen j).cleared ≡ l.least)))
