-- Maps of a store.
use Rattle.bpf_model.proofs.Prelude.{◌≡◌, ℕ, zero, suc, ◌<◌, List, [], ◌∷◌, length, Some, map, arith, slice_get, shape_in}
use Rattle.model_laws.proofs.Prelude.{MapShape}
use Rattle.reference_store.specs.declared.map_state.MapState.{MapState}
use Rattle.reference_store.specs.State.{map_of}

pub shape-within : (ms : List MapState) (k : ℕ) (shape : MapShape) → shape_in (slice_get (map map_of ms) k) ≡ Some shape → k < length ms
shape-within [] k shape h = absurd cc
shape-within (m ∷ ms) zero shape h = omega arith
shape-within (m ∷ ms) (suc k) shape h = omega (arith, shape-within ms k shape h)
