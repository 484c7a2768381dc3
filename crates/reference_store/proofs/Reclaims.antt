-- A reclamation is one by the definition.
use Rattle.bpf_model.proofs.Prelude.{◌≡◌, ℕ, List, Some, ap, ◌∙◌, slice_get, slice_set, Section, Element, Reclaimed, with_life, MapState, Store, given_of}
use Rattle.bpf_model.proofs.Prelude.{returned, Reclaims}
use Rattle.model_laws.proofs.Prelude.{Given}
use Rattle.reference_store.specs.Births.{MayReclaim}

-- x is the element, and z its map after the map slot was given back
pub reclaims-at : (s : Store) (opened : List Section) (n : ℕ) (x : Element) (y z : MapState) (given : Given) (new : Store) →
    slice_get s.elements n ≡ Some x → slice_get s.maps x.map ≡ Some y → MayReclaim x.life opened → given ≡ given_of x.uses y → z ≡ returned x.uses y →
    new.elements ≡ slice_set s.elements n (with_life Reclaimed x) → new.maps ≡ slice_set s.maps x.map z → Reclaims s opened n x given new
reclaims-at s opened n x y z given new hx hy may given_is z_is elements maps =
    let new_maps = maps ∙ ap (slice_set s.maps x.map) z_is in
    record {
      state = y;
      since = may.0;
      born = hx;
      unlinked = may.1;
      ended = may.2;
      there = hy;
      given_is = given_is;
      new_is = ap (λ es. record { elements = es; maps = new.maps }) elements ∙
          ap (λ ms. record { elements = slice_set s.elements n (with_life Reclaimed x); maps = ms }) new_maps;
    }
