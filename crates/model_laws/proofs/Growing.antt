-- Changes of elements that let them grow.
use Rattle.bpf_model.proofs.Prelude.{◌≡◌, ℕ, List, ◌++◌, Option, Some, None, inl, inr, refl, sym, ap, subst, ◌∙◌, slice_get, slice_set, cases_eq, Section}
use Rattle.bpf_model.proofs.Prelude.{Element, Life, Linked, Unlinked, Reclaimed, IsLinkedAt, HasLife, with_life, with_value, set_to, changed, overwritten}
use Rattle.bpf_model.proofs.Prelude.{unlinked, get-append, get-set_other, get-set_there}
use Rattle.model_laws.proofs.Prelude.{IsLaterLife, IsLaterElement, ElementsGrow}

later-same : (l : Life) → IsLaterLife l l
later-same Linked = tt
later-same (Unlinked s) = refl
later-same Reclaimed = tt

later-unlinked : (l : Life) (since : List Section) → l ≡ Linked → IsLaterLife l (Unlinked since)
later-unlinked l since h = subst (λ x. IsLaterLife x (Unlinked since)) (sym h) tt

later-reclaimed : (l : Life) (since : List Section) → l ≡ Unlinked since → IsLaterLife l Reclaimed
later-reclaimed l since h = subst (λ x. IsLaterLife x Reclaimed) (sym h) tt

pub only-reclaimed : (a b : Life) → a ≡ Reclaimed → IsLaterLife a b → b ≡ Reclaimed
only-reclaimed Linked b e h = absurd (cc)
only-reclaimed (Unlinked s) b e h = absurd (cc)
only-reclaimed Reclaimed Linked e h = absurd h
only-reclaimed Reclaimed (Unlinked s) e h = absurd h
only-reclaimed Reclaimed Reclaimed e h = refl

follows-same : (e : Element) → IsLaterElement e e
follows-same e = record { in_map = refl; under = refl; uses = refl; life = later-same e.life }

pub follows-value : (value : List ℕ) (e : Element) → IsLaterElement e (with_value value e)
follows-value value e = record { in_map = refl; under = refl; uses = refl; life = later-same e.life }

pub follows-unlinked : (opened : List Section) (e : Element) → e.life ≡ Linked → IsLaterElement e (with_life (Unlinked opened) e)
follows-unlinked opened e h = record { in_map = refl; under = refl; uses = refl; life = later-unlinked e.life opened h }

pub follows-reclaimed : (e : Element) (since : List Section) → e.life ≡ Unlinked since → IsLaterElement e (with_life Reclaimed e)
follows-reclaimed e since h = record { in_map = refl; under = refl; uses = refl; life = later-reclaimed e.life since h }

pub grows-same : (es : List Element) → ElementsGrow es es
grows-same es n e h = (e, h, follows-same e)

pub grows-along : (es new : List Element) → new ≡ es → ElementsGrow es new
grows-along es new h = subst (ElementsGrow es) (sym h) (grows-same es)

-- more elements after those that have grown
pub grows-append : (es new more : List Element) → ElementsGrow es new → ElementsGrow es (new ++ more)
grows-append es new more g n e h =
    let f = g n e h in
    (f.0, get-append new more n f.0 f.1, f.2)

pub grows-set : (es : List Element) (n : ℕ) (old new : Element) → slice_get es n ≡ Some old → IsLaterElement old new → ElementsGrow es (slice_set es n new)
grows-set es n old new h f k e at = elim (cases_eq k n) [
  | inl same ↦
      let there : slice_get es n ≡ Some e = ap (slice_get es) (sym same) ∙ at in
      let both : Some old ≡ Some e = sym h ∙ there in
      let equal : old ≡ e = cc in
      let P : Element → Type 0 = λ x. IsLaterElement x new in
      (new, ap (slice_get (slice_set es n new)) same ∙ get-set_there es n old new h, subst P equal f)
  | inr other ↦ (e, get-set_other es n k new other ∙ at, follows-same e)
]

grows-set_to : (f : Element → Element) (es : List Element) (n : ℕ) →
    ((e : Element) → slice_get es n ≡ Some e → IsLaterElement e (f e)) → (o : Option Element) → slice_get es n ≡ o →
    ElementsGrow es (set_to f es n o)
grows-set_to f es n h None e = grows-same es
grows-set_to f es n h (Some x) e = grows-set es n x (f x) e (h x e)

pub grows-changed : (f : Element → Element) (es : List Element) (n : ℕ) →
    ((e : Element) → slice_get es n ≡ Some e → IsLaterElement e (f e)) → ElementsGrow es (changed f es n)
grows-changed f es n h = grows-set_to f es n h (slice_get es n) refl

-- what was found gets another value
pub grows-overwritten : (value : List ℕ) (es : List Element) (found : Option ℕ) → ElementsGrow es (overwritten value es found)
grows-overwritten value es None = grows-same es
grows-overwritten value es (Some n) = grows-changed (with_value value) es n (λ e h. follows-value value e)

-- what was found is unlinked
pub grows-unlinked : (opened : List Section) (es : List Element) (map : ℕ) (key : List ℕ) (n : ℕ) →
    IsLinkedAt es map key n → ElementsGrow es (unlinked opened es (Some n))
grows-unlinked opened es map key n l = grows-changed (with_life (Unlinked opened)) es n
    (λ e h. follows-unlinked opened e (let both : Some l.element ≡ Some e = sym l.born ∙
    h in let equal : l.element ≡ e = cc in ap (λ x. x.life) (sym equal) ∙ l.linked))

pub stays-reclaimed : (es new : List Element) (n : ℕ) → ElementsGrow es new → HasLife es n Reclaimed → HasLife new n Reclaimed
stays-reclaimed es new n g h =
    let f = g n h.0 h.1 in
    (f.0, f.1, only-reclaimed h.0.life f.0.life h.2 f.2.life)
