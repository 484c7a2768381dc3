use Rattle.bpf_model.proofs.Prelude.{◌≡◌, ℕ, ◌+◌, ◌<◌, length, slice_index}
use Rattle.map_table.proofs.Prelude.{most_words}
use Rattle.shared_runs.proofs.maps.named_map.key_in.Given as goal

-- the name, so many words of the key, and zeros
abbrev pub invariant-loop-place : goal.invariant-loop-place
invariant-loop-place l =
    (length l.words ≡ most_words) × (slice_index l.words 0 ≡ l.map.name)
    × ((place : ℕ) → place < l.place → slice_index l.words (place + 1) ≡ slice_index l.key place)
    × ((place : ℕ) → l.place < place → place < most_words → slice_index l.words place ≡ 0)
