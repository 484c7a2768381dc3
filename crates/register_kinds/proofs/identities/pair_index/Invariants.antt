use Rattle.bpf_model.proofs.Prelude.{◌≡◌, ℕ, ◌<◌, Some, slice_get}
use Rattle.register_kinds.proofs.identities.pair_index.Given as goal

abbrev pub invariant-loop-i : goal.invariant-loop-i
invariant-loop-i l = (k : ℕ) → k < l.i → slice_get l.pairs.items k ≡ Some (l.x, l.y) → ⊥
