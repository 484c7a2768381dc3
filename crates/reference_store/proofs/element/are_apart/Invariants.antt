use Rattle.bpf_model.proofs.Prelude.{◌≡◌, ◌<◌, ℕ, Some, slice_get, Section, Has}
use Rattle.reference_store.specs.State.{sections_of}
use Rattle.reference_store.proofs.element.are_apart.Given as goal

abbrev pub invariant-loop-i : goal.invariant-loop-i
invariant-loop-i l = (k : ℕ) → k < l.i → (s : Section) → slice_get (sections_of l.since) k ≡ Some s → Has (sections_of l.opened) s → ⊥
