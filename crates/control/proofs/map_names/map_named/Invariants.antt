use Rattle.bpf_model.proofs.Prelude.{◌≡◌, ℕ, ◌<◌, slice_get, Some}
use Rattle.control.proofs.map_names.map_named.Given as goal

abbrev pub invariant-loop-number : goal.invariant-loop-number
invariant-loop-number l = (map : ℕ) → map < l.number → slice_get l.maps.names map ≡ Some l.name → ⊥
