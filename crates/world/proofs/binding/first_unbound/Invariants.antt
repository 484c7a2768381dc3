use Rattle.bpf_model.proofs.Prelude.{◌≡◌, ℕ, ◌<◌, slice_get, Some, shapes_of_maps}
use Rattle.world.proofs.Prelude.{IsBound}
use Rattle.world.specs.declared.kept.loaded.Loaded.{Loaded}
use Rattle.world.proofs.binding.first_unbound.Given as goal

abbrev pub invariant-loop-index : goal.invariant-loop-index
invariant-loop-index l = (q : ℕ) (x : Loaded) → q < l.index → slice_get l.loaded q ≡ Some x → IsBound (shapes_of_maps l.registry.maps) x
