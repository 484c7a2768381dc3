use Rattle.bpf_model.proofs.Prelude.{◌≡◌, ℕ, ◌<◌, slice_get, Some, IsShape, MapView}
use Rattle.maps.proofs.registry.each_has_shape.Given as goal

abbrev pub invariant-loop-map : goal.invariant-loop-map
invariant-loop-map l = (k : ℕ) (v : MapView) → k < l.map-index → slice_get l.maps k ≡ Some v → IsShape v.shape
