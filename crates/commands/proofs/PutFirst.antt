-- Elements that are put one after another, and what is told of one that is not.
use Rattle.bpf_model.proofs.Prelude.{◌≡◌, ◌∙◌, ℕ, zero, suc, arith, ◌+◌, ◌<◌, ◌≤◌, List, [], ◌∷◌, ◌++◌, length, map, take, get_or, drop, All, Some, None, ap}
use Rattle.bpf_model.proofs.Prelude.{sym, subst, option_map, slice_get, map-append, take_more, All-append, slice_get-map, AreShapes, MapView}
use Rattle.std.proofs.Math.Seq.{split_at}
use Rattle.bpf_model.specs.declared.event.Event.{Event}
use Rattle.bpf_model.specs.declared.event.EventRefusal.{EventRefusal}
use Rattle.bpf_model.specs.declared.limits.MapShape.{MapShape}
use Rattle.bpf_model.specs.declared.limits.TheConstants.{KEY_BYTES, VALUE_BYTES}
use Rattle.maps.specs.Registry.{RegistryView}
use Rattle.command_words.specs.declared.request.MapElement.{MapElement}
use Rattle.commands.specs.Runs.{element_refusal, put_event, AllFit, HasBadElement}

-- the elements below the next index are those below this one, and the one that stands there
next_taken : (elements : List MapElement) (k : ℕ) (e : MapElement) → k < length elements → get_or elements k e ≡ e →
    take (k + 1) elements ≡ take k elements ++ e ∷ []
next_taken elements k e inside at = take_more elements k e inside ∙ ap (λ (x : MapElement). take k elements ++ x ∷ []) at

pub one_put_more : (maps : RegistryView) (elements : List MapElement) (k : ℕ) (e : MapElement) (events : List Event)
    (event : Event) → k < length elements → get_or elements k e ≡ e → events ≡ map (put_event maps) (take k elements)
    → event ≡ put_event maps e → events ++ event ∷ [] ≡ map (put_event maps) (take (k + 1) elements)
one_put_more maps elements k e events event inside at before is =
    ap (λ (es : List Event). es ++ event ∷ []) before
    ∙ (ap (λ (x : Event). map (put_event maps) (take k elements) ++ x ∷ []) is
    ∙ sym (ap (map (put_event maps)) (next_taken elements k e inside at) ∙ map-append (put_event maps) (take k elements) (e ∷ [])))

one_all : (P : MapElement → Type 0) (e : MapElement) → P e → All P (e ∷ [])
one_all P e holds zero d less = holds
one_all P e holds (suc k) d less = absurd (omega (arith, less))

pub one_fits_more : (maps : RegistryView) (elements : List MapElement) (k : ℕ) (e : MapElement) → k < length elements
    → get_or elements k e ≡ e → AllFit maps (take k elements) → element_refusal maps e ≡ None →
    AllFit maps (take (k + 1) elements)
one_fits_more maps elements k e inside at before fits =
    subst (AllFit maps) (sym (next_taken elements k e inside at))
    (All-append (λ m. element_refusal maps m ≡ None) (take k elements) (e ∷ []) before
    (one_all (λ m. element_refusal maps m ≡ None) e fits))

-- what stands behind elements that fit, and doesn't, is the first bad one
pub first_bad : (maps : RegistryView) (elements : List MapElement) (k : ℕ) (e : MapElement) (r : EventRefusal) →
    k < length elements → get_or elements k e ≡ e → AllFit maps (take k elements) → element_refusal maps e ≡ Some r →
    HasBadElement maps elements r
first_bad maps elements k e r inside at before fails =
    let cut = split_at elements k e inside ∙ ap (λ (x : MapElement). take k elements ++ x ∷ drop (suc k) elements) at in
    (take k elements, e, drop (suc k) elements, cut, before, fails)

-- the limits of the shape of a registry's map
pub short_enough : (maps : List MapView) (number : ℕ) (shape : MapShape) → AreShapes (map (λ v. v.shape) maps) →
    option_map (λ m. m.shape) (slice_get maps number) ≡ Some shape → (shape.key_len ≤ KEY_BYTES) ×
    (shape.value_len ≤ VALUE_BYTES)
short_enough maps number shape all at =
    let is = all number shape (slice_get-map (λ v. v.shape) maps number ∙ at) in (is.key.1, is.value.1)
