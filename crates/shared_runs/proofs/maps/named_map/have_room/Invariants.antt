use Rattle.bpf_model.proofs.Prelude.{◌≡◌, ℕ, ◌<◌, Some, slice_get}
use Rattle.model_laws.proofs.Prelude.{Hash, MapShape}
use Rattle.shared_runs.specs.Named.{KeepsNamed}
use Rattle.shared_runs.proofs.maps.named_map.have_room.Given as goal

abbrev pub invariant-loop-index : goal.invariant-loop-index
invariant-loop-index l = (i : ℕ) (shape : MapShape) → i < l.index → slice_get l.shapes i ≡ Some shape →
    KeepsNamed l.table l.maps i shape × (shape.kind ≡ Hash)
