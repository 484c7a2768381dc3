-- Which loaded programs are bound to the maps of a world as they were verified.
use Rattle.std.specs.Prelude.{◌≡◌, ℕ, List, Some, slice_get}
use Rattle.bpf_model.specs.declared.limits.MapShape.{MapShape}
use Rattle.world_laws.specs.Binding.{IsBoundTo}
use Rattle.world.specs.declared.kept.loaded.Loaded.{Loaded}

-- The program's maps are there, with the shapes that it was verified for.
abbrev pub IsBound : List MapShape → Loaded → Type 0
IsBound shapes l = IsBoundTo shapes l.verified.shapes l.maps.items

abbrev pub AreProgramsBound : List MapShape → List Loaded → Type 0
AreProgramsBound shapes loaded =
    (p : ℕ) (l : Loaded) → slice_get loaded p ≡ Some l → IsBound shapes l
