-- A text that is no UTF-8 is no name of a map.
use Rattle.bpf_model.proofs.Prelude.{◌≡◌, ℕ, false, List, Some, refl, IsUtf8, false_from_ne_true, IsUtf8-from_ascii}
use Rattle.model_laws.proofs.Prelude.{MapShape}
use Rattle.maps.specs.declared.fault.MapFault.TheVariants.{BadName}
use Rattle.maps.proofs.Names.{ascii_name}
use Rattle.maps.specs.Registry.{RegistryView, creation_fault, is_name}

not-a-name : (name : List ℕ) → (IsUtf8 name → ⊥) → is_name name ≡ false
not-a-name name h = false_from_ne_true (is_name name) (λ e. h (IsUtf8-from_ascii name (ascii_name name e)))

pub bad-name : (r : RegistryView) (name : List ℕ) (shape : MapShape) → (IsUtf8 name → ⊥) → creation_fault r name shape ≡ Some BadName
bad-name r name shape h = rw (not-a-name name h) refl
