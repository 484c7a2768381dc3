-- What a new life of an element, and a birth, leave as it was.
use Rattle.bpf_model.proofs.Prelude.{◌≡◌, ◌≢◌, ◌∙◌, ℕ, ◌+◌, ◌<◌, ◌≤◌, List, [], ◌∷◌, ◌++◌, length, Some, ◌⊎◌, inl, inr, refl, sym, ap, arith, cond, Bool}
use Rattle.bpf_model.proofs.Prelude.{false, subst, slice_get, slice_set, slice_index, count_by, ◌==◌, ◌&&◌, cases_eq, cases_lt, eqb-true, false_from_ne_true}
use Rattle.bpf_model.proofs.Prelude.{false≢true, and_right, same_Some, slice_get_within, length-append, length-set, sum_by_push, Element, Life, IsLinkedAt}
use Rattle.bpf_model.proofs.Prelude.{is_linked, is_reclaimed, linked_count, with_life, with_value, newborn, map_in, slot_view, get-append, get-append_cases}
use Rattle.bpf_model.proofs.Prelude.{get-below, get-set_cases, get-set_other, get-set_there}
use Rattle.model_laws.proofs.Tallies.{one_of, count-set}
use Rattle.model_laws.proofs.Lists.{index-append}

-- An element that was there before: not reclaimed, in the same map, and outside map k with the same key, value and use count.
pub record Was (k : ℕ) (es : List Element) (n : ℕ) (f : Element) : Type 0 where
  pub element : Element
  pub born : slice_get es n ≡ Some element
  pub kept : is_reclaimed element.life ≡ false
  pub in_map : element.map ≡ f.map
  pub view : f.map ≢ k → slot_view element ≡ slot_view f

-- The elements change in map k alone, as far as a view can tell, and births keep their map slots.
pub record Changes (k : ℕ) (slots names : List ℕ) (es fs : List Element) : Type 0 where
  pub grows : (n : ℕ) → n < length es → n < length fs
  pub named : (n : ℕ) → n < length es → slice_index names n ≡ slice_index slots n
  pub maps : (n : ℕ) → n < length es → map_in (slice_get fs n) ≡ map_in (slice_get es n)
  pub back : (n : ℕ) (f : Element) → n < length es → slice_get fs n ≡ Some f → is_reclaimed f.life ≡ false → Was k es n f
  pub newborns : (n : ℕ) (f : Element) → length es ≤ n → slice_get fs n ≡ Some f → is_reclaimed f.life ≡ false → f.map ≡ k
  pub links : (j : ℕ) (key : List ℕ) (n : ℕ) → j ≢ k → IsLinkedAt es j key n → IsLinkedAt fs j key n
  pub linked : (j : ℕ) (key : List ℕ) (n : ℕ) → j ≢ k → IsLinkedAt fs j key n → IsLinkedAt es j key n
  pub counts : (j : ℕ) → j ≢ k → linked_count j fs ≡ linked_count j es

was-same : (k : ℕ) (es : List Element) (n : ℕ) (f : Element) → slice_get es n ≡ Some f → is_reclaimed f.life ≡ false → Was k es n f
was-same k es n f at kept = record { element = f; born = at; kept = kept; in_map = refl; view = λ ne. refl }

pub changes-same : (k : ℕ) (slots : List ℕ) (es : List Element) → Changes k slots slots es es
changes-same k slots es = record {
  grows = λ n h. h;
  named = λ n h. refl;
  maps = λ n h. refl;
  back = λ n f h at kept. was-same k es n f at kept;
  newborns = λ n f h at kept. let z : n < length es = slice_get_within es n f at in absurd (omega arith);
  links = λ j key n ne h. h;
  linked = λ j key n ne h. h;
  counts = λ j ne. refl;
}

pub changes-trans : (k : ℕ) (slots names more : List ℕ) (es fs gs : List Element) → Changes k slots names es fs →
    Changes k names more fs gs → Changes k slots more es gs
changes-trans k slots names more es fs gs a b = record {
  grows = λ n h. b.grows n (a.grows n h);
  named = λ n h. b.named n (a.grows n h) ∙ a.named n h;
  maps = λ n h. b.maps n (a.grows n h) ∙ a.maps n h;
  back = λ n g h at kept.
      let x = b.back n g (a.grows n h) at kept in
      let y = a.back n x.element h x.born x.kept in
      record { element = y.element; born = y.born; kept = y.kept; in_map = y.in_map ∙ x.in_map; view = λ ne. y.view (λ e. ne (sym x.in_map ∙ e)) ∙ x.view ne };
  newborns = λ n g h at kept. newborn-of n g h at kept;
  links = λ j key n ne h. b.links j key n ne (a.links j key n ne h);
  linked = λ j key n ne h. a.linked j key n ne (b.linked j key n ne h);
  counts = λ j ne. b.counts j ne ∙ a.counts j ne;
}
  where
    newborn-of : (n : ℕ) (g : Element) → length es ≤ n → slice_get gs n ≡ Some g → is_reclaimed g.life ≡ false → g.map ≡ k
    newborn-of n g h at kept = elim (cases_lt n (length fs)) [
      | inl y ↦
          let x = b.back n g y at kept in
          sym x.in_map ∙ a.newborns n x.element h x.born x.kept
      | inr z ↦ b.newborns n g (omega arith) at kept
    ]

-- a new life
abbrev counts_as : ℕ → Element → Bool
counts_as k e = is_linked e.life && (e.map == k)

no-count : (e : Element) (j : ℕ) → e.map ≢ j → one_of (counts_as j e) ≡ 0
no-count e j ne = ap one_of (and_right (is_linked e.life) (e.map == j) (false_from_ne_true (e.map == j) (λ t. ne (eqb-true e.map j t))))

module _ (k : ℕ) (es : List Element) (n : ℕ) (e : Element) (l : Life) (born : slice_get es n ≡ Some e) (in_map : e.map ≡ k) where
  abbrev fs : List Element
  fs = slice_set es n (with_life l e)

  at-other : (a : ℕ) → a ≢ n → slice_get fs a ≡ slice_get es a
  at-other a ne = get-set_other es n a (with_life l e) ne

  here : (x : Element) → slice_get fs n ≡ Some x → x ≡ with_life l e
  here x at = same_Some x (with_life l e) (sym at ∙ get-set_there es n e (with_life l e) born)

  away : (j : ℕ) (key : List ℕ) (a : ℕ) → j ≢ k → IsLinkedAt es j key a → a ≢ n
  away j key a ne h same =
      let x : h.element ≡ e = same_Some h.element e (sym h.born ∙ (ap (slice_get es) same ∙ born)) in
      ne (sym h.in_map ∙ (ap (λ z. z.map) x ∙ in_map))

  gone : (j : ℕ) (key : List ℕ) (a : ℕ) → j ≢ k → IsLinkedAt fs j key a → a ≢ n
  gone j key a ne h same =
      let x : h.element ≡ with_life l e = here h.element (ap (slice_get fs) (sym same) ∙ h.born) in
      ne (sym h.in_map ∙ (ap (λ z. z.map) x ∙ in_map))

  pub link-kept : (j : ℕ) (key : List ℕ) (a : ℕ) → a ≢ n → IsLinkedAt es j key a → IsLinkedAt fs j key a
  link-kept j key a ne h = record { element = h.element; born = at-other a ne ∙ h.born; linked = h.linked; in_map = h.in_map; under = h.under }

  pub link-back : (j : ℕ) (key : List ℕ) (a : ℕ) → a ≢ n → IsLinkedAt fs j key a → IsLinkedAt es j key a
  link-back j key a ne h = record { element = h.element; born = sym (at-other a ne) ∙ h.born; linked = h.linked; in_map = h.in_map; under = h.under }

  -- where the new life isn't linked, a linked element is another one
  pub not-linked : is_linked l ≡ false → (j : ℕ) (key : List ℕ) (a : ℕ) → IsLinkedAt fs j key a → a ≢ n
  not-linked isnt j key a h same =
      let x : h.element ≡ with_life l e = here h.element (ap (slice_get fs) (sym same) ∙ h.born) in
      false≢true (sym isnt ∙ (ap (λ z. is_linked z.life) (sym x) ∙ ap is_linked h.linked))

  pub changes-life : (slots : List ℕ) → is_reclaimed e.life ≡ false → Changes k slots slots es fs
  changes-life slots kept = record {
    grows = λ a h. subst (λ x. a < x) (sym (length-set es n (with_life l e))) h;
    named = λ a h. refl;
    maps = λ a h. elim (cases_eq a n) [
      | inl same ↦ ap (λ b. map_in (slice_get fs b)) same ∙
          (ap map_in (get-set_there es n e (with_life l e) born ∙ refl) ∙
          (ap map_in (sym born) ∙ ap (λ b. map_in (slice_get es b)) (sym same)))
      | inr ne ↦ ap map_in (at-other a ne)
    ];
    back = λ a f h at kept_now. elim (get-set_cases es n a (with_life l e) f at) [
      | inl x ↦ record { element = e; born = ap (slice_get es) x.0 ∙ born; kept = kept; in_map = ap (λ z. z.map) x.1; view = λ ne. ap slot_view x.1 }
      | inr x ↦ was-same k es a f x.1 kept_now
    ];
    newborns = λ a f h at kept_now. let z : a < length fs =
        slice_get_within fs a f at in let s : length fs ≡ length es =
        length-set es n (with_life l e) in absurd (omega arith);
    links = λ j key a ne h. link-kept j key a (away j key a ne h) h;
    linked = λ j key a ne h. link-back j key a (gone j key a ne h) h;
    counts = λ j ne.
        let c = count-set (counts_as j) es n e (with_life l e) born in
        let x : one_of (counts_as j e) ≡ 0 = no-count e j (λ h. ne (sym h ∙ in_map)) in
        let y : one_of (counts_as j (with_life l e)) ≡ 0 = no-count (with_life l e) j (λ h. ne (sym h ∙ in_map)) in
        omega arith;
  }

-- a new value
module _ (k : ℕ) (es : List Element) (n : ℕ) (e : Element) (value : List ℕ) (born : slice_get es n ≡ Some e) (in_map : e.map ≡ k) where
  abbrev vs : List Element
  vs = slice_set es n (with_value value e)

  written-here : (x : Element) → slice_get vs n ≡ Some x → with_value value e ≡ x
  written-here x at = same_Some (with_value value e) x (sym (get-set_there es n e (with_value value e) born) ∙ at)

  pub link-written : (j : ℕ) (key : List ℕ) (a : ℕ) → IsLinkedAt es j key a → IsLinkedAt vs j key a
  link-written j key a h = elim (cases_eq a n) [
    | inl same ↦
        let x : h.element ≡ e = same_Some h.element e (sym h.born ∙ (ap (slice_get es) same ∙ born)) in
        record {
          element = with_value value e;
          born = ap (slice_get vs) same ∙ get-set_there es n e (with_value value e) born;
          linked = ap (λ z. z.life) (sym x) ∙ h.linked;
          in_map = ap (λ z. z.map) (sym x) ∙ h.in_map;
          under = ap (λ z. z.key) (sym x) ∙ h.under;
        }
    | inr ne ↦ record {
      element = h.element;
      born = get-set_other es n a (with_value value e) ne ∙ h.born;
      linked =
          h.linked;
      in_map = h.in_map;
      under = h.under;
    }
  ]

  pub link-unwritten : (j : ℕ) (key : List ℕ) (a : ℕ) → IsLinkedAt vs j key a → IsLinkedAt es j key a
  link-unwritten j key a h = elim (cases_eq a n) [
    | inl same ↦
        let x : with_value value e ≡ h.element = written-here h.element (ap (slice_get vs) (sym same) ∙ h.born) in
        record {
          element = e;
          born = ap (slice_get es) same ∙ born;
          linked = ap (λ (z : Element). z.life) x ∙ h.linked;
          in_map = ap (λ (z : Element). z.map) x ∙ h.in_map;
          under = ap (λ (z : Element). z.key) x ∙ h.under;
        }
    | inr ne ↦ record {
      element = h.element;
      born = sym (get-set_other es n a (with_value value e) ne) ∙ h.born;
      linked = h.linked;
      in_map = h.in_map;
      under = h.under;
    }
  ]

  pub count-written : (p : Life → ℕ → Bool) → count_by (λ x. p x.life x.map) vs ≡ count_by (λ x. p x.life x.map) es
  count-written p = let c = count-set (λ (x : Element). p x.life x.map) es n e (with_value value e) born in omega arith

  pub changes-value : (slots : List ℕ) → is_reclaimed e.life ≡ false → Changes k slots slots es vs
  changes-value slots kept = record {
    grows = λ a h. subst (λ x. a < x) (sym (length-set es n (with_value value e))) h;
    named = λ a h. refl;
    maps = λ a h. elim (cases_eq a n) [
      | inl same ↦ ap (λ b. map_in (slice_get vs b)) same ∙
          (ap map_in (get-set_there es n e (with_value value e) born) ∙
          (ap map_in (sym born) ∙ ap (λ b. map_in (slice_get es b)) (sym same)))
      | inr ne ↦ ap map_in (get-set_other es n a (with_value value e) ne)
    ];
    back = λ a f h at kept_now. elim (get-set_cases es n a (with_value value e) f at) [
      | inl x ↦ record {
        element = e;
        born = ap (slice_get es) x.0 ∙ born;
        kept = kept;
        in_map =
            ap (λ (z : Element). z.map) x.1;
        view = λ ne. absurd (ne (ap (λ (z : Element). z.map) (sym x.1) ∙ in_map));
      }
      | inr x ↦ was-same k es a f x.1 kept_now
    ];
    newborns = λ a f h at kept_now. let z : a < length vs =
        slice_get_within vs a f at in let s : length vs ≡ length es =
        length-set es n (with_value value e) in absurd (omega arith);
    links = λ j key a ne h. link-written j key a h;
    linked = λ j key a ne h. link-unwritten j key a h;
    counts = λ j ne. count-written (λ life map. is_linked life && (map == j));
  }

-- a birth
module _ (k : ℕ) (slots : List ℕ) (es : List Element) (births : length slots ≡ length es) (i : ℕ) (key value : List ℕ) (count : ℕ) where
  abbrev child : Element
  child = newborn k key value count

  abbrev gs : List Element
  gs = es ++ child ∷ []

  pub length-born : length gs ≡ length es + 1
  length-born = length-append es (child ∷ [])

  pub link-grown : (j : ℕ) (q : List ℕ) (a : ℕ) → IsLinkedAt es j q a → IsLinkedAt gs j q a
  link-grown j q a h = record {
    element = h.element;
    born = get-append es (child ∷ []) a h.element h.born;
    linked =
        h.linked;
    in_map = h.in_map;
    under = h.under;
  }

  -- a linked element was so before, or is the one that is born
  pub link-cases : (j : ℕ) (q : List ℕ) (a : ℕ) → IsLinkedAt gs j q a → IsLinkedAt es j q a ⊎ ((a ≡ length es) × (k ≡ j) × (key ≡ q))
  link-cases j q a h = elim (get-append_cases es child a h.element h.born) [
    | inl x ↦ inl (record { element = h.element; born = x; linked = h.linked; in_map = h.in_map; under = h.under })
    | inr x ↦ inr (x.0, ap (λ (z : Element). z.map) x.1 ∙ h.in_map, ap (λ (z : Element). z.key) x.1 ∙ h.under)
  ]

  pub count-born : (j : ℕ) → linked_count j gs ≡ linked_count j es + one_of (k == j)
  count-born j = sum_by_push (λ e. cond (counts_as j e) 1 0) es child

  pub changes-born : Changes k slots (slots ++ i ∷ []) es gs
  changes-born = record {
    grows = λ a h. let z = length-born in omega arith;
    named = λ a h. index-append slots i a (omega arith);
    maps = λ a h. let x = get-below es a h in ap map_in (get-append es (child ∷ []) a x.0 x.1 ∙ sym x.1);
    back = λ a f h at kept. elim (get-append_cases es child a f at) [
      | inl x ↦ was-same k es a f x kept
      | inr x ↦ absurd (let z : a ≡ length es = x.0 in omega arith)
    ];
    newborns = λ a f h at kept. elim (get-append_cases es child a f at) [
      | inl x ↦ absurd (let z : a < length es = slice_get_within es a f x in omega arith)
      | inr x ↦ ap (λ (z : Element). z.map) (sym x.1)
    ];
    links = λ j q a ne h. link-grown j q a h;
    linked = λ j q a ne h. elim (link-cases j q a h) [ inl x ↦ x | inr x ↦ absurd (ne (sym x.1)) ];
    counts = λ j ne. let c = count-born j in let z : one_of (k == j) ≡ 0 =
        ap one_of (false_from_ne_true (k == j) (λ t. ne (sym (eqb-true k j t)))) in omega arith;
  }
