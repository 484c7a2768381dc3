-- The map and the key that a helper was called with.
use Rattle.std.specs.Prelude.{◌≡◌, Some}
use Rattle.bpf_model.specs.Machine.{Run}
use Rattle.bpf_model.specs.MapState.{Store, shape_of}
use Rattle.model_laws.specs.ByKind.{map_argument, key_argument}
use Rattle.reference_model.specs.declared.call.MapKey.{MapKey}

pub record IsMapKey (s : Store) (run : Run) (at : MapKey) : Type 0 where
  pub map : map_argument run ≡ Some at.map
  pub shape : shape_of s at.map ≡ Some at.shape
  pub key : key_argument s run at.map ≡ Some at.key.items
