-- A program that is bound to maps of a world is bound to the machine's.
use Rattle.bpf_model.proofs.Prelude.{◌≡◌, ◌∙◌, ℕ, zero, suc, List, [], ◌∷◌, map, length, Option, Some, None, refl, sym, ap, slice_get, length-map, none-some}
use Rattle.bpf_model.proofs.Prelude.{same_Some, slice_get-map, MapState, RefinesSchedule, Schedule, MapView, WorldView, shapes_of}
use Rattle.model_laws.proofs.Prelude.{MapShape}
use Rattle.plan_laws.proofs.Prelude.{AreMapsBound}
use Rattle.std.specs.Option.{option_map}
use Rattle.model_laws.proofs.ViewedWorlds.{here}

pub bound-count : (shapes asked : List MapShape) (numbers : List ℕ) → map (slice_get shapes) numbers ≡ map Some asked → length numbers ≡ length asked
bound-count shapes asked numbers bound =
    sym (length-map numbers (slice_get shapes)) ∙ (ap length bound ∙ length-map asked Some)

pub bound-each : (shapes asked : List MapShape) (numbers : List ℕ) → map (slice_get shapes) numbers ≡ map Some asked →
    (i : ℕ) (shape : MapShape) → slice_get asked i ≡ Some shape → (number : ℕ) × (slice_get numbers i ≡ Some number) ×
    (slice_get shapes number ≡ Some shape)
bound-each shapes [] numbers bound i shape at = absurd (none-some shape at)
bound-each shapes (a ∷ asked) [] bound i shape at = absurd (cc)
bound-each shapes (a ∷ asked) (n ∷ numbers) bound zero shape at = (n, refl, cc)
bound-each shapes (a ∷ asked) (n ∷ numbers) bound (suc i) shape at =
    let rest : map (slice_get shapes) numbers ≡ map Some asked = cc in
    bound-each shapes asked numbers rest i shape at

-- the view whose shape it is
view-of : (o : Option MapView) (shape : MapShape) → option_map (λ v. v.shape) o ≡ Some shape → (v : MapView) × (o ≡ Some v) × (v.shape ≡ shape)
view-of None shape e = absurd (none-some shape e)
view-of (Some v) shape e = (v, refl, same_Some v.shape shape e)

pub bound-behind : (w : WorldView) (s : Schedule) → RefinesSchedule w s → (asked : List MapShape) (numbers : List ℕ) →
    map (slice_get (shapes_of w)) numbers ≡ map Some asked → AreMapsBound asked numbers s.machine.store.maps
bound-behind w s x asked numbers bound = record {
  count = bound-count (shapes_of w) asked numbers bound;
  each = λ i shape at.
      let there = bound-each (shapes_of w) asked numbers bound i shape at in
      let view = view-of (slice_get w.maps there.0) shape (sym (slice_get-map (λ v. v.shape) w.maps there.0) ∙ there.2) in
      let h = here w s x there.0 view.0 view.1 in
      (there.0, h.state, there.1, h.there, ap (λ (m : MapState). m.shape) h.stands.state ∙ view.2);
}
