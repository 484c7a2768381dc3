-- What events do to maps leaves their shapes, so that programs stay bound to them.
use Rattle.bpf_model.proofs.Prelude.{◌≡◌, ◌∙◌, ℕ, List, [], ◌∷◌, Option, Some, refl, sym, ap, subst, map, slice_get, slice_set, MapView, WorldView}
use Rattle.bpf_model.proofs.Prelude.{shapes_of_maps}
use Rattle.model_laws.proofs.Prelude.{ReapedElement, Pick, reap_by, turned_view}
use Rattle.world.proofs.Prelude.{AreProgramsBound}
use Rattle.bpf_model.specs.declared.event.Event.TheVariants as events
use Rattle.maps.specs.Picking.{IsPicked}
use Rattle.model_laws.proofs.Reacting.{set-shapes}
use Rattle.world_laws.proofs.Keeping.{full_keeps}
use Rattle.world.specs.declared.kept.loaded.Loaded.{Loaded}

abbrev pub AreBound : List MapView → List Loaded → Type 0
AreBound maps programs = AreProgramsBound (shapes_of_maps maps) programs

pub bound_still : (maps new : List MapView) (programs : List Loaded) → shapes_of_maps new ≡ shapes_of_maps maps → AreBound maps programs → AreBound new programs
bound_still maps new programs same bound = subst (λ shapes. AreProgramsBound shapes programs) (sym same) bound

-- a map is put in the place of one of its shape
pub bound_changed : (maps : List MapView) (k : ℕ) (v new : MapView) (programs : List Loaded) →
    slice_get maps k ≡ Some v → new.shape ≡ v.shape → AreBound maps programs →
    AreBound (slice_set maps k new) programs
bound_changed maps k v new programs at same bound = bound_still maps (slice_set maps k new) programs (set-shapes maps k v new at same) bound

turned-shapes : (maps : List MapView) → shapes_of_maps (map turned_view maps) ≡ shapes_of_maps maps
turned-shapes [] = refl
turned-shapes (v ∷ maps) = ap (λ l. v.shape ∷ l) (turned-shapes maps)

-- a grace period ends in each map
pub bound_turned : (maps new : List MapView) (programs : List Loaded) → new ≡ map turned_view maps → AreBound maps programs → AreBound new programs
bound_turned maps new programs is bound = bound_still maps new programs (ap shapes_of_maps is ∙ turned-shapes maps) bound

-- an element is reclaimed
pub bound_reaped : (w : WorldView) (new : List MapView) (element : ReapedElement) (programs : List Loaded) →
    IsPicked w.maps new element → AreBound w.maps programs → AreBound new programs
bound_reaped w new element programs picked bound =
    bound_still w.maps new programs
    (ap shapes_of_maps picked.new_is ∙ (ap (λ (o : Option Pick). shapes_of_maps (reap_by o w).1.maps) (sym picked.first) ∙ (full_keeps w events.Reap).0))
    bound
