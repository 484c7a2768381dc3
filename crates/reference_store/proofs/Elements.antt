-- What a map has under a key, and lists of elements in which one is changed or added.
use Rattle.bpf_model.proofs.Prelude.{◌≡◌, ℕ, zero, suc, ◌<◌, ◌≤◌, List, [], ◌∷◌, ◌++◌, length, Option, Some, None, refl, sym, ap, ◌∙◌, subst, arith, map}
use Rattle.bpf_model.proofs.Prelude.{slice_get, slice_set, slice_get_within, Section, Element, Unlinked, IsLinkedAt, with_life, set_to, changed, unlinked}
use Rattle.bpf_model.proofs.Prelude.{slice_get_past}
use Rattle.reference_store.specs.State.{IsLinkedHere}

-- an element of the list is what the map has under the key, when it says so
pub linked-here : (es : List Element) (map : ℕ) (key : List ℕ) (n : ℕ) (e : Element) → slice_get es n ≡ Some e →
    IsLinkedHere e map key → IsLinkedAt es map key n
linked-here es map key n e h l = record { element = e; born = h; linked = l.0; in_map = l.1; under = l.2 }

pub not-here : (es : List Element) (map : ℕ) (key : List ℕ) (n : ℕ) (e : Element) → slice_get es n ≡ Some e →
    (IsLinkedHere e map key → ⊥) → IsLinkedAt es map key n → ⊥
not-here es map key n e h no-link l =
    let same : Some l.element ≡ Some e = sym l.born ∙ h in
    let equal : l.element ≡ e = cc in
    no-link (subst (λ x. IsLinkedHere x map key) equal (l.linked, l.in_map, l.under))

-- no element from the end of the list on
pub not-past : (es : List Element) (map : ℕ) (key : List ℕ) (n : ℕ) → length es ≤ n → IsLinkedAt es map key n → ⊥
not-past es map key n h l = absurd (let e : Some l.element ≡ None = sym l.born ∙ slice_get_past es n h in cc)

pub changed-at : (f : Element → Element) (es : List Element) (n : ℕ) (e : Element) → slice_get es n ≡ Some e → changed f es n ≡ slice_set es n (f e)
changed-at f es n e h = ap (set_to f es n) h

pub changed-past : (f : Element → Element) (es : List Element) (n : ℕ) → slice_get es n ≡ None → changed f es n ≡ es
changed-past f es n h = ap (set_to f es n) h

-- an element before the last is unlinked, whether the last is there or not
set_to-cons : (f : Element → Element) (e : Element) (es : List Element) (n : ℕ) (o : Option Element) → set_to f (e ∷ es) (suc n) o ≡ e ∷ set_to f es n o
set_to-cons f e es n None = refl
set_to-cons f e es n (Some x) = refl

changed-append : (f : Element → Element) (es ys : List Element) (n : ℕ) → n < length es → changed f (es ++ ys) n ≡ changed f es n ++ ys
changed-append f [] ys n h = absurd (omega arith)
changed-append f (e ∷ es) ys zero h = refl
changed-append f (e ∷ es) ys (suc n) h =
    set_to-cons f e (es ++ ys) n (slice_get (es ++ ys) n) ∙ ap (λ l. e ∷ l) (changed-append f es ys n (omega arith)) ∙
    sym (ap (λ l. l ++ ys) (set_to-cons f e es n (slice_get es n)))

pub born-found : (opened : List Section) (es more new : List Element) (x : Element) (n : ℕ) → n < length es →
    more ≡ es ++ x ∷ [] → new ≡ unlinked opened more (Some n) → new ≡ unlinked opened es (Some n) ++ x ∷ []
born-found opened es more new x n h e f = f ∙ ap (λ l. unlinked opened l (Some n)) e ∙ changed-append (with_life (Unlinked opened)) es (x ∷ []) n h

pub within : (es : List Element) (map : ℕ) (key : List ℕ) (n : ℕ) → IsLinkedAt es map key n → n < length es
within es map key n l = slice_get_within es n l.element l.born

pub one-element : (es : List Element) (map : ℕ) (key : List ℕ) (n : ℕ) (e : Element) (l : IsLinkedAt es map key n) →
    slice_get es n ≡ Some e → e.value ≡ l.element.value
one-element es map key n e l h =
    let p : Some e ≡ Some l.element = sym h ∙ l.born in
    let q : e ≡ l.element = cc in
    ap (λ x. x.value) q
