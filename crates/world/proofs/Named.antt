-- The map that a call names, and what the call makes of it.
use Rattle.bpf_model.proofs.Prelude.{◌≡◌, ◌∙◌, ℕ, ◌-◌, sym, ap, List, Option, Some, slice_get, slice_index, get_or_from_slice_get, MapView, RunView, map_base}
use Rattle.model_laws.proofs.Prelude.{Helper}
use Rattle.world.proofs.Prelude.{called, called_on, called_at}
use Rattle.world_laws.proofs.Prelude.{word_in, IsCall}

module _ (helper known : Helper) (bound : List ℕ) (maps : List MapView) (v : RunView) (c : IsCall helper bound maps v)
    (k id : ℕ) (at : k ≡ word_in v 1 - map_base) (is : id ≡ slice_index bound k) where
  numbered : id ≡ c.map
  numbered = is ∙ ap (slice_index bound) at ∙ get_or_from_slice_get bound (word_in v 1 - map_base) c.map 0 c.named

  pub called_is : (m : MapView) → helper ≡ known → slice_get maps id ≡ Some m → called helper bound v maps ≡ called_at known id (Some m) v maps
  called_is m e there =
      ap (λ (h : Helper). called h bound v maps) e
      ∙ ap (λ (o : Option ℕ). called_on known o v maps) (c.named ∙ ap Some (sym numbered))
      ∙ ap (λ (o : Option MapView). called_at known id o v maps) there
