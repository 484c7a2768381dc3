use Rattle.bpf_model.proofs.Prelude.{ℕ, ◌<◌, IsLinkedAt}
use Rattle.reference_store.specs.State.{elements_of}
use Rattle.reference_store.proofs.store.Store.lookup.Given as goal

abbrev pub invariant-loop-n : goal.invariant-loop-n
invariant-loop-n l = (k : ℕ) → k < l.n → IsLinkedAt (elements_of l.self.elements.items) l.map l.key k → ⊥
