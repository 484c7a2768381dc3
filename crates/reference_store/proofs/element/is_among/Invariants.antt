use Rattle.bpf_model.proofs.Prelude.{◌≡◌, ◌<◌, ℕ, Some, slice_get}
use Rattle.reference_store.specs.State.{section_shown, sections_of}
use Rattle.reference_store.proofs.element.is_among.Given as goal

abbrev pub invariant-loop-j : goal.invariant-loop-j
invariant-loop-j l = (k : ℕ) → k < l.j → slice_get (sections_of l.sections) k ≡ Some (section_shown l.section) → ⊥
