-- Sections, compared and listed.
use Rattle.bpf_model.proofs.Prelude.{◌≡◌, ℕ, ◌+◌, ◌<◌, ◌≤◌, Bool, List, Some, None, sym, ap, ◌∙◌, subst, arith, length, true, false, inl, inr, slice_get}
use Rattle.bpf_model.proofs.Prelude.{slice_index_or, ◌==◌, ◌&&◌, slice_get-get_or, eq-eqb, false≢true, cases_lt, slice_get_past, length-map, get-map}
use Rattle.bpf_model.specs.Section as model
use Rattle.reference_store.specs.declared.element.Section.{Section}
use Rattle.reference_store.specs.State.{section_shown, sections_of}

same-section : (x s : Section) → section_shown x ≡ section_shown s → ((x.run == s.run) && (x.number == s.number)) ≡ true
same-section x s e = ap (λ b. b && (x.number == s.number)) (eq-eqb x.run s.run (ap (λ t. t.run) e)) ∙ eq-eqb x.number s.number (ap (λ t. t.number) e)

-- one more section is none of them
pub not-among : (xs : List Section) (s d : Section) (j : ℕ) (b : Bool) → j < length xs →
    b ≡ ((slice_index_or xs j d).run == s.run) && ((slice_index_or xs j d).number == s.number) → b ≡ false →
    ((k : ℕ) → k < j → slice_get (sections_of xs) k ≡ Some (section_shown s) → ⊥) → (k : ℕ) → k < j + 1 →
    slice_get (sections_of xs) k ≡ Some (section_shown s) → ⊥
not-among xs s d j b h e f before k l g = elim (cases_lt k j) [
  | inl a ↦ before k a g
  | inr a ↦
      let same : k ≡ j = omega arith in
      let x = slice_index_or xs j d in
      let read = get-map section_shown xs j x (slice_get-get_or xs j d h) in
      let both : Some (section_shown x) ≡ Some (section_shown s) = sym read ∙ ap (slice_get (sections_of xs)) (sym same) ∙ g in
      let one : section_shown x ≡ section_shown s = cc in
      false≢true (sym f ∙ e ∙ same-section x s one)
]

pub none-among : (xs : List Section) (s : Section) (j : ℕ) → length xs ≤ j →
    ((k : ℕ) → k < j → slice_get (sections_of xs) k ≡ Some (section_shown s) → ⊥) →
    model.Has (sections_of xs) (section_shown s) → ⊥
none-among xs s j h before has = elim (cases_lt has.0 j) [
  | inl a ↦ before has.0 a has.1
  | inr a ↦
      let far : length (sections_of xs) ≤ has.0 = omega (arith, length-map xs section_shown) in
      let e : Some (section_shown s) ≡ None = sym has.1 ∙ slice_get_past (sections_of xs) has.0 far in
      absurd cc
]

-- one section that is open keeps the others
pub not-ended : (xs opened : List Section) (d : Section) (i : ℕ) → i < length xs → model.Has (sections_of opened) (section_shown (slice_index_or xs i d)) →
    model.AllEnded (sections_of xs) (sections_of opened) → ⊥
not-ended xs opened d i h has ended =
    let x = slice_index_or xs i d in
    ended (section_shown x) (i, get-map section_shown xs i x (slice_get-get_or xs i d h)) has

-- one more section has ended
pub apart-more : (xs opened : List Section) (d : Section) (i : ℕ) → i < length xs →
    (model.Has (sections_of opened) (section_shown (slice_index_or xs i d)) → ⊥) →
    ((k : ℕ) → k < i → (s : model.Section) → slice_get (sections_of xs) k ≡ Some s → model.Has (sections_of opened) s → ⊥) →
    (k : ℕ) → k < i + 1 → (s : model.Section) → slice_get (sections_of xs) k ≡ Some s → model.Has (sections_of opened) s → ⊥
apart-more xs opened d i h ended before k l s g o = elim (cases_lt k i) [
  | inl a ↦ before k a s g o
  | inr a ↦
      let same : k ≡ i = omega arith in
      let x = slice_index_or xs i d in
      let both : Some (section_shown x) ≡ Some s = sym (get-map section_shown xs i x (slice_get-get_or xs i d h)) ∙
      ap (slice_get (sections_of xs)) (sym same) ∙ g in
      let one : section_shown x ≡ s = cc in
      ended (subst (λ t. model.Has (sections_of opened) t) (sym one) o)
]

pub all-apart : (xs opened : List Section) (i : ℕ) → length xs ≤ i →
    ((k : ℕ) → k < i → (s : model.Section) → slice_get (sections_of xs) k ≡ Some s → model.Has (sections_of opened) s
    → ⊥) →
    model.AllEnded (sections_of xs) (sections_of opened)
all-apart xs opened i h before s has o = elim (cases_lt has.0 i) [
  | inl a ↦ before has.0 a s has.1 o
  | inr a ↦
      let far : length (sections_of xs) ≤ has.0 = omega (arith, length-map xs section_shown) in
      let e : Some s ≡ None = sym has.1 ∙ slice_get_past (sections_of xs) has.0 far in
      absurd cc
]
