-- The bytes 0, 1, 2 and so on.
use Rattle.bpf_model.proofs.Prelude.{◌≡◌, ℕ, ◌<◌, List, length, slice_index}

-- so many bytes, each the number of its index
pub record Counts (bytes : List ℕ) (n : ℕ) : Type 0 where
  pub length_is : length bytes ≡ n
  pub each : (k : ℕ) → k < n → slice_index bytes k ≡ k
