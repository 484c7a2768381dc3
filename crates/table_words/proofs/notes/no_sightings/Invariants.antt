use Rattle.table_words.proofs.Prelude.{◌≡◌, ℕ, ◌≤◌, vec_len, vec_capacity}
use Rattle.table_words.specs.Sightings.{no_sighting, sighting_at}
use Rattle.table_words.proofs.notes.no_sightings.Given as goal

abbrev pub invariant-loop : goal.invariant-loop
invariant-loop l = (vec_len l.seen ≡ l.counter) × (l.readers ≤ vec_capacity l.seen) × ((j : ℕ) → sighting_at l.seen.items j ≡ no_sighting)
