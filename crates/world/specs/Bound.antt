-- Whether the programs of a new world are bound to its maps as they were verified.
use Rattle.std.specs.Prelude.{◌≡◌, ℕ, ◌<◌, List, Some, slice_get}
use Rattle.bpf_model.specs.declared.limits.MapShape.{MapShape}
use Rattle.world.specs.BoundTo.{IsBound}
use Rattle.world.specs.declared.kept.loaded.Loaded.{Loaded}

-- Program p is not bound, and each before it is.
pub record IsFirstUnbound (shapes : List MapShape) (loaded : List Loaded) (p : ℕ) : Type 0 where
  pub program : Loaded
  pub there : slice_get loaded p ≡ Some program
  pub unbound : IsBound shapes program → ⊥
  pub before : (q : ℕ) (other : Loaded) → q < p → slice_get loaded q ≡ Some other →
      IsBound shapes other
