use Rattle.bpf_model.proofs.Prelude.{◌≡◌, ◌<◌, ◌≤◌, ◌-◌, ℕ, Some, length, slice_get}
use Rattle.element_store.proofs.Prelude.{key_at}
use Rattle.hash_index.specs.Order.{IsLess}
use Rattle.hash_index.proofs.position.position.Given as goal

abbrev pub invariant-loop-low : goal.invariant-loop-low
invariant-loop-low l = record {
  order : l.low ≤ l.high;
  within : l.high ≤ length l.slots;
  below : (i s : ℕ) → i < l.low → slice_get l.slots i ≡ Some s → IsLess (key_at l.arena.slots s) l.key;
  above : (i s : ℕ) → l.high ≤ i → slice_get l.slots i ≡ Some s → IsLess (key_at l.arena.slots s) l.key → ⊥;
}

abbrev pub decreases-loop-low : goal.decreases-loop-low
decreases-loop-low l = l.high - l.low
