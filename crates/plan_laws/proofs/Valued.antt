-- The values of all elements stay bytes; the programs stay.
use Rattle.bpf_model.proofs.Prelude.{◌≡◌, ℕ, zero, suc, List, [], ◌∷◌, ◌++◌, map, replicate, Option, Some, None, inl, inr, refl, sym, ap, subst, ◌∙◌, Result}
use Rattle.bpf_model.proofs.Prelude.{arith, slice_get, slice_set, range_with_len, none-some, same_Some, Section, Element, Unlinked, Reclaimed, with_life}
use Rattle.bpf_model.proofs.Prelude.{with_value, newborn, set_to, changed, overwritten, unlinked, MapState, Store, array_element, new_elements}
use Rattle.bpf_model.proofs.Prelude.{all_new_elements, Writes, Settles, Updates, Removes, RemovesFrom, Deletes, Machine, open_sections, StepsRun}
use Rattle.bpf_model.proofs.Prelude.{PerformsEvent, Answers, DoesEvent, refusal, AreBytes, IsReal, AllBytes, get-append_cases, get-replicate, get-set_cases}
use Rattle.model_laws.proofs.Prelude.{Errno, Event, Answer, EventRefusal, MapKind, Hash, Array, MapShape}
use Rattle.bpf_model.specs.declared.event.Event.TheVariants as events
use Rattle.bpf_model.specs.declared.event.Answer.TheVariants as answers
use Rattle.model_laws.proofs.Changing.{StoreChange, ByUpdate, ByDelete, ByReclaim, Change, Still, Begins, Steps, Stores, Leaves, change}

bytes-along : (es new : List Element) → new ≡ es → AllBytes es → AllBytes new
bytes-along es new e h = subst AllBytes (sym e) h

pub bytes-set : (es : List Element) (n : ℕ) (f : Element) → AllBytes es → AreBytes f.value → AllBytes (slice_set es n f)
bytes-set es n f h b k e at = elim (get-set_cases es n k f e at) [
  | inl x ↦ subst (λ (y : Element). AreBytes y.value) x.1 b
  | inr x ↦ h k e x.1
]

bytes-set_to : (f : Element → Element) (es : List Element) (n : ℕ) (o : Option Element) → AllBytes es →
    ((e : Element) → o ≡ Some e → AreBytes (f e).value) → AllBytes (set_to f es n o)
bytes-set_to f es n None h b = h
bytes-set_to f es n (Some e) h b = bytes-set es n (f e) h (b e refl)

pub bytes-changed : (f : Element → Element) (es : List Element) (n : ℕ) → AllBytes es →
    ((e : Element) → slice_get es n ≡ Some e → AreBytes (f e).value) → AllBytes (changed f es n)
bytes-changed f es n h b = bytes-set_to f es n (slice_get es n) h b

bytes-unlinked : (opened : List Section) (es : List Element) (found : Option ℕ) → AllBytes es → AllBytes (unlinked opened es found)
bytes-unlinked opened es None h = h
bytes-unlinked opened es (Some n) h = bytes-changed (with_life (Unlinked opened)) es n h (λ e at. h n e at)

bytes-born : (es : List Element) (nb : Element) → AllBytes es → AreBytes nb.value → AllBytes (es ++ nb ∷ [])
bytes-born es nb h b k e at = elim (get-append_cases es nb k e at) [
  | inl x ↦ h k e x
  | inr x ↦ subst (λ (y : Element). AreBytes y.value) x.1 b
]

bytes-overwritten : (value : List ℕ) (es : List Element) (found : Option ℕ) → AllBytes es → AreBytes value → AllBytes (overwritten value es found)
bytes-overwritten value es None h b = h
bytes-overwritten value es (Some n) h b = bytes-changed (with_value value) es n h (λ e at. b)

bytes-writes : (kind : MapKind) (s : Store) (opened : List Section) (map : ℕ) (m : MapState) (key value : List ℕ)
    (found : Option ℕ) (new : Store) → AllBytes s.elements → AreBytes value →
    Writes kind s opened map m key value found new → AllBytes new.elements
bytes-writes Hash s opened map m key value found new h b w =
    bytes-along _ new.elements (ap (λ x. x.elements) w.new_is)
    (bytes-born (unlinked opened s.elements found) (newborn map key value w.count)
    (bytes-unlinked opened s.elements found h) b)
bytes-writes Array s opened map m key value found new h b w = bytes-along _ new.elements (ap (λ x. x.elements) w) (bytes-overwritten value s.elements found h b)

bytes-settles : (kind : MapKind) (s : Store) (opened : List Section) (map : ℕ) (m : MapState) (key value : List ℕ)
    (found : Option ℕ) (new : Store) (error : Option Errno) (ret : Result (Unit {0}) Errno) →
    AllBytes s.elements → AreBytes value → Settles error ret s new (Writes kind s opened map m key value found new) → AllBytes new.elements
bytes-settles kind s opened map m key value found new (Some e) ret h b st = bytes-along s.elements new.elements (ap (λ x. x.elements) st.1) h
bytes-settles kind s opened map m key value found new None ret h b st = bytes-writes kind s opened map m key value found new h b st.1

pub bytes-updates : (s : Store) (opened : List Section) (map : ℕ) (key value : List ℕ) (flags : ℕ)
    (ret : Result (Unit {0}) Errno) (new : Store) → AllBytes s.elements → AreBytes value →
    Updates s opened map key value flags ret new → AllBytes new.elements
bytes-updates s opened map key value flags ret new h b u = bytes-settles u.state.shape.kind s opened map u.state key value u.found new _ ret h b u.settled

bytes-removes : (s : Store) (opened : List Section) (ret : Result (Unit {0}) Errno) (new : Store) (found : Option ℕ) →
    AllBytes s.elements → Removes found opened ret s new → AllBytes new.elements
bytes-removes s opened ret new None h r = bytes-along s.elements new.elements (ap (λ x. x.elements) r.1) h
bytes-removes s opened ret new (Some n) h r = bytes-along _ new.elements (ap (λ x. x.elements) r.1) (bytes-unlinked opened s.elements (Some n) h)

bytes-removed : (kind : MapKind) (s : Store) (opened : List Section) (ret : Result (Unit {0}) Errno) (new : Store)
    (found : Option ℕ) → AllBytes s.elements → RemovesFrom kind found opened ret s new → AllBytes new.elements
bytes-removed Hash s opened ret new found h r = bytes-removes s opened ret new found h r
bytes-removed Array s opened ret new found h r = bytes-along s.elements new.elements (ap (λ x. x.elements) r.1) h

pub bytes-deletes : (s : Store) (opened : List Section) (map : ℕ) (key : List ℕ) (ret : Result (Unit {0}) Errno)
    (new : Store) → AllBytes s.elements → Deletes s opened map key ret new → AllBytes new.elements
bytes-deletes s opened map key ret new h d = bytes-removed d.state.shape.kind s opened ret new d.found h d.removed

pub same-bytes : (s new : Store) → new ≡ s → AllBytes s.elements → AllBytes new.elements
same-bytes s new e h = bytes-along s.elements new.elements (ap (λ x. x.elements) e) h

-- elements of new maps have values of zeros
bytes-append : (es fs : List Element) → AllBytes es → AllBytes fs → AllBytes (es ++ fs)
bytes-append [] fs h g n f at = g n f at
bytes-append (e ∷ es) fs h g zero f at = h zero f at
bytes-append (e ∷ es) fs h g (suc n) f at = bytes-append es fs (λ k. h (suc k)) g n f at

zero-bytes : (n : ℕ) → AreBytes (replicate n 0)
zero-bytes n k b at = let e : b ≡ 0 = get-replicate n k 0 b at in omega (arith, e)

bytes-each : (k : ℕ) (shape : MapShape) (indices : List ℕ) → AllBytes (map (array_element k shape) indices)
bytes-each k shape [] n e at = absurd (none-some e at)
bytes-each k shape (i ∷ indices) zero e at = subst (λ (x : Element). AreBytes x.value) (same_Some (array_element k shape i) e at) (zero-bytes shape.value_len)
bytes-each k shape (i ∷ indices) (suc n) e at = bytes-each k shape indices n e at

bytes-new : (kind : MapKind) (k : ℕ) (shape : MapShape) → AllBytes (new_elements kind k shape)
bytes-new Hash k shape n e at = absurd (none-some e at)
bytes-new Array k shape n e at = bytes-each k shape (range_with_len 0 shape.entries) n e at

pub bytes-start : (k : ℕ) (shapes : List MapShape) → AllBytes (all_new_elements k shapes)
bytes-start k [] n e at = absurd (none-some e at)
bytes-start k (shape ∷ shapes) n e at = bytes-append (new_elements shape.kind k shape)
    (all_new_elements (suc k) shapes) (bytes-new shape.kind k shape) (bytes-start (suc k) shapes) n e at

-- of a step of a run it is known by its program's verification
bytes-store_change : (s : Store) (opened : List Section) (new : Store) (event : Event) → IsReal event → AllBytes s.elements →
    StoreChange s opened new event → AllBytes new.elements
bytes-store_change s opened new event real h (ByUpdate map key value flags ret u) =
    bytes-updates s opened map key.items value.items flags ret new h real.2 u
bytes-store_change s opened new event real h (ByDelete map key ret d) = bytes-deletes s opened map key.items ret new h d
bytes-store_change s opened new event real h (ByReclaim n e given r) =
    subst (λ (x : Store). AllBytes x.elements) (sym r.new_is) (bytes-set s.elements n (with_life Reclaimed e) h (h n e r.born))

bytes-change : (m new : Machine) (event : Event) (answer : Answer) → IsReal event →
    ((r : ℕ) → StepsRun m r answer new → AllBytes new.store.elements) → AllBytes m.store.elements →
    Change m new event answer → AllBytes new.store.elements
bytes-change m new event answer real step h (Still e counts) = same-bytes m.store new.store (ap (λ x. x.store) e) h
bytes-change m new event answer real step h (Begins prog ctx r pass p) = same-bytes m.store new.store (ap (λ x. x.store) p.new_is) h
bytes-change m new event answer real step h (Steps r p) = step r p
bytes-change m new event answer real step h (Stores store pass c e) =
    subst (λ (s : Store). AllBytes s.elements) (ap (λ x. x.store) (sym e))
    (bytes-store_change m.store (open_sections m.runs) store event real h c)
bytes-change m new event answer real step h (Leaves r e) = same-bytes m.store new.store (ap (λ x. x.store) e) h

pub does-bytes : (m new : Machine) (event : Event) (answer : Answer) → IsReal event →
    ((r : ℕ) → StepsRun m r answer new → AllBytes new.store.elements) → AllBytes m.store.elements →
    DoesEvent m event answer new → AllBytes new.store.elements
does-bytes m new event answer real step h p = bytes-change m new event answer real step h (change m new event answer p)

-- the programs stay
change-programs : (m new : Machine) (event : Event) (answer : Answer) → Change m new event answer → new.programs ≡ m.programs
change-programs m new event answer (Still e counts) = ap (λ x. x.programs) e
change-programs m new event answer (Begins prog ctx r pass h) = ap (λ x. x.programs) h.new_is
change-programs m new event answer (Steps r h) = ap (λ x. x.programs) h.new_is
change-programs m new event answer (Stores store pass c e) = ap (λ x. x.programs) e
change-programs m new event answer (Leaves r e) = ap (λ x. x.programs) e

pub does-programs : (m new : Machine) (event : Event) (answer : Answer) → DoesEvent m event answer new → new.programs ≡ m.programs
does-programs m new event answer h = change-programs m new event answer (change m new event answer h)
