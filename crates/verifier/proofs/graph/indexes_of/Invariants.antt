use Rattle.bpf_model.proofs.Prelude.{◌≡◌, ℕ, ◌<◌, length, slice_get, Some, StartsAt}
use Rattle.verifier.proofs.graph.indexes_of.Given as goal

abbrev pub invariant-loop-index : goal.invariant-loop-index
invariant-loop-index l = record {
  long : length l.indexes.items ≡ l.slot_count;
  found : (j p : ℕ) → j < l.index → StartsAt l.instructions j p → slice_get l.indexes.items p ≡ Some (Some j);
  only : (p j : ℕ) → slice_get l.indexes.items p ≡ Some (Some j) → StartsAt l.instructions j p;
}
