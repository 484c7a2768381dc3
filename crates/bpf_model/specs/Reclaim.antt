-- Reclamation (Linux RCU requirements, "Grace-Period Guarantee"): an element may be reclaimed once
-- each section that was open when it was unlinked has ended. Which of those elements is reclaimed,
-- and when, is left open.
use Rattle.std.specs.Prelude.{◌≡◌, ℕ, List, Some, slice_get, slice_set}
use Rattle.bpf_model.specs.declared.event.Given.{Given}
use Rattle.bpf_model.specs.Section.{Section, AllEnded}
use Rattle.bpf_model.specs.Element.{Element, Unlinked, Reclaimed, with_life}
use Rattle.bpf_model.specs.MapState.{MapState, Store, given_of, returned}

-- Element n is reclaimed: its map slot's use count goes back into the bag, or it is worn out.
pub record Reclaims (s : Store) (opened : List Section) (n : ℕ) (element : Element) (given : Given)
    (new : Store) : Type 0 where
  pub state : MapState
  pub since : List Section
  pub born : slice_get s.elements n ≡ Some element
  pub unlinked : element.life ≡ Unlinked since
  pub ended : AllEnded since opened
  pub there : slice_get s.maps element.map ≡ Some state
  pub given_is : given ≡ given_of element.uses state
  pub new_is : new ≡ record {
    elements = slice_set s.elements n (with_life Reclaimed element);
    maps = slice_set s.maps element.map (returned element.uses state);
  }
