-- A new element takes the map slot that has been free longest.
use Rattle.bpf_model.proofs.Prelude.{◌≡◌, ℕ, ◌+◌, ◌<◌, ◌≤◌, List, [], ◌∷◌, ◌++◌, Option, Some, None, refl, sym, ap, ◌∙◌, arith, length, slice_get, drop, ◌-◌}
use Rattle.bpf_model.proofs.Prelude.{Section, Element, Unlinked, Linked, with_life, set_to, unlinked, MapState, Store, with_bag, TakesOldest, length-set}
use Rattle.bpf_model.proofs.Prelude.{slice_get_past, get-set_there, get-append_last}
use Rattle.reference_store.specs.Births.{uses_after_first, without_first_free}
use Rattle.reference_store.proofs.Births.{without_first-at}
use Rattle.reference_store.proofs.Lists.{first-of}

changed-length : (f : Element → Element) (es : List Element) (n : ℕ) (o : Option Element) → length (set_to f es n o) ≡ length es
changed-length f es n None = refl
changed-length f es n (Some e) = length-set es n (f e)

pub unlinked-length : (opened : List Section) (es : List Element) (found : Option ℕ) → length (unlinked opened es found) ≡ length es
unlinked-length opened es None = refl
unlinked-length opened es (Some n) = changed-length (with_life (Unlinked opened)) es n (slice_get es n)

pub birth : (s t : Store) (opened : List Section) (k : ℕ) (m : MapState) (key value : List ℕ) (found : Option ℕ)
    (use_count : ℕ) → slice_get s.maps k ≡ Some m → 0 < length m.bag → use_count ≡ uses_after_first m.bag →
    t.elements ≡ unlinked opened s.elements found ++ record {
      map = k;
      key = key;
      value = value;
      uses = use_count;
      life = Linked;
    } ∷ [] → t.maps ≡ without_first_free s.maps k → TakesOldest s t
birth s t opened k m key value found use_count h free uses elements maps e before after born old new =
    let x : Element = record { map = k; key = key; value = value; uses = use_count; life = Linked } in
    let at : slice_get t.elements (length s.elements) ≡ Some x = ap (λ l. slice_get l (length s.elements)) elements ∙
    (ap (slice_get (unlinked opened s.elements found ++ x ∷ [])) (sym (unlinked-length opened s.elements found)) ∙
    get-append_last (unlinked opened s.elements found) x) in
    let both : Some e ≡ Some x = sym born ∙ at in
    let is_x : e ≡ x = cc in
    let old_k : slice_get s.maps k ≡ Some before = ap (λ y. slice_get s.maps y.map) (sym is_x) ∙ old in
    let one : Some before ≡ Some m = sym old_k ∙ h in
    let is_m : before ≡ m = cc in
    let new_k : slice_get t.maps k ≡ Some after = ap (λ y. slice_get t.maps y.map) (sym is_x) ∙ new in
    let taken : slice_get t.maps k ≡ Some (with_bag (drop 1 m.bag) m) =
    ap (λ l. slice_get l k) (maps ∙ without_first-at s.maps k m h) ∙
    get-set_there s.maps k m (with_bag (drop 1 m.bag) m) h in
    let two : Some after ≡ Some (with_bag (drop 1 m.bag) m) = sym new_k ∙ taken in
    let is_after : after ≡ with_bag (drop 1 m.bag) m = cc in
    let f = first-of m.bag free in
    let bag : m.bag ≡ f.0 ∷ f.1 = f.2 in
    let count : e.uses ≡ f.0 + 1 = ap (λ y. y.uses) is_x ∙ uses ∙ ap uses_after_first bag in
    let less : e.uses - 1 ≡ f.0 = omega arith in
    ap (λ y. y.bag) is_m ∙ bag ∙ ap (λ n. n ∷ f.1) (sym less) ∙ ap (λ l. (e.uses - 1) ∷ drop 1 l) (sym bag) ∙ ap (λ y. (e.uses - 1) ∷ y.bag) (sym is_after)

-- where no element is born nothing is asked
pub no-birth : (s t : Store) → length t.elements ≤ length s.elements → TakesOldest s t
no-birth s t h e before after born old new =
    let none : Some e ≡ None = sym born ∙ slice_get_past t.elements (length s.elements) h in
    absurd cc
