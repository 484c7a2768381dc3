use Rattle.bpf_model.proofs.Prelude.{◌≡◌, ℕ, ◌*◌, ◌<◌, Some, length, slice_get, slice_index, number_at}
use Rattle.map_table.proofs.Prelude.{most_words}
use Rattle.shared_runs.proofs.maps.key_words.words_of.Given as goal

abbrev pub invariant-loop-place : goal.invariant-loop-place
invariant-loop-place l = (length l.words ≡ most_words)
    × ((p : ℕ) → p < l.place → number_at (slice_get l.key) (8 * p) 8 ≡ Some (slice_index l.words p))
