-- An element that was reclaimed: the first ready one of the first map that has one.
use Rattle.std.specs.Prelude.{◌≡◌, List, Some, slice_set}
use Rattle.bpf_model.specs.declared.event.ReapedElement.{ReapedElement}
use Rattle.bpf_model.specs.View.{MapView}
use Rattle.model_laws.specs.Views.{reaped_view}
use Rattle.model_laws.specs.Reactions.{Pick, first_pick, picked_element}

pub record IsPicked (old new : List MapView) (element : ReapedElement) : Type 0 where
  pub pick : Pick
  pub first : first_pick 0 old ≡ Some pick
  pub element_is : element ≡ picked_element pick
  pub new_is : new ≡ slice_set old pick.map (reaped_view pick.view pick.slot)
