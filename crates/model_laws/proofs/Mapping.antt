-- The elements of a map stand in its view, through each change of them.
use Rattle.bpf_model.proofs.Prelude.{◌≡◌, ◌≢◌, ◌∙◌, ℕ, ◌+◌, ◌<◌, ◌≤◌, List, [], ◌∷◌, ◌++◌, length, Some, None, ◌⊎◌, inl, inr, refl, sym, ap, arith, subst}
use Rattle.bpf_model.proofs.Prelude.{false, slice_get, slice_set, slice_index, ◌==◌, ◌&&◌, get, insert, remove, len, cases_eq, cases_lt, eq-eqb, false≢true}
use Rattle.bpf_model.proofs.Prelude.{none-some, same_Some, slice_get_within, Section, Element, Life, Unlinked, Reclaimed, IsLinkedAt, is_linked, is_reclaimed}
use Rattle.bpf_model.proofs.Prelude.{linked_count, with_life, newborn, MapView, uses_at, times, slot_view, IsElementKept, ElementsStand, SlotsStand}
use Rattle.bpf_model.proofs.Prelude.{length-set, get-append_cases, get-append_last, get-below, get-set_cases, get-set_other, get-set_there, key_cases}
use Rattle.model_laws.proofs.Prelude.{Given, Free, Worn, retired_slot, filled, slot_given_back}
use Rattle.model_laws.proofs.Counting.{times-first, times-other, times-append}
use Rattle.model_laws.proofs.ViewsChanging.{Changes, changes-life, link-kept, link-back, not-linked, link-grown, link-cases, count-born}
use Rattle.model_laws.proofs.Tallies.{one_of, count-set}
use Rattle.model_laws.proofs.Indices.{insert-same, insert-other, len-insert_new}
use Rattle.model_laws.proofs.Lists.{remove-same, remove-other, len-remove_found, index-append, index-last}

-- a kept element of the map was one before
record Kin (slots names : List ℕ) (k : ℕ) (es : List Element) (n : ℕ) (f : Element) : Type 0 where
  pub old : Element
  pub was : IsElementKept es k n old
  pub view : slot_view old ≡ slot_view f
  pub slot : slice_index names n ≡ slice_index slots n

kin-old : (j k : ℕ) (slots names : List ℕ) (es fs : List Element) → Changes k slots names es fs → j ≢ k →
    (n : ℕ) (f : Element) → n < length es → IsElementKept fs j n f → Kin slots names j es n f
kin-old j k slots names es fs c ne n f less h =
    let x = c.back n f less h.born h.kept in
    record {
      old = x.element;
      was = record { born = x.born; in_map = x.in_map ∙ h.in_map; kept = x.kept };
      view =
          x.view (λ e. ne (sym h.in_map ∙ e));
      slot = c.named n less;
    }

-- an element that is kept in the same map, after one has a new life, was kept before with the same view and map slot
kin-life : (slots : List ℕ) (k : ℕ) (es : List Element) (n : ℕ) (e : Element) (l : Life) → slice_get es n ≡ Some e →
    e.map ≡ k → is_reclaimed e.life ≡ false → (a : ℕ) (f : Element) →
    IsElementKept (slice_set es n (with_life l e)) k a f → Kin slots slots k es a f
kin-life slots k es n e l born in_map kept a f g = elim (get-set_cases es n a (with_life l e) f g.born) [
  | inl x ↦ record { old = e; was = record { born = ap (slice_get es) x.0 ∙ born; in_map = in_map; kept = kept }; view = ap slot_view x.1; slot = refl }
  | inr x ↦ record { old = f; was = record { born = x.1; in_map = g.in_map; kept = g.kept }; view = refl; slot = refl }
]

-- the elements of another map stand as they did
module _ (j k : ℕ) (slots names : List ℕ) (es fs : List Element) (v : MapView) (c : Changes k slots names es fs)
    (ne : j ≢ k) (s : ElementsStand slots j es v) where
  kin : (n : ℕ) (f : Element) → IsElementKept fs j n f → Kin slots names j es n f
  kin n f h = elim (cases_lt n (length es)) [
    | inl y ↦ kin-old j k slots names es fs c ne n f y h
    | inr z ↦ absurd (ne (sym h.in_map ∙ c.newborns n f (omega arith) h.born h.kept))
  ]

  named-linked : (key : List ℕ) (n : ℕ) → IsLinkedAt es j key n → slice_index names n ≡ slice_index slots n
  named-linked key n h = c.named n (slice_get_within es n h.element h.born)

  pub elements-other : ElementsStand names j fs v
  elements-other = record {
    occupied = λ n f h. let x = kin n f h in ap (slice_get v.slots) x.slot ∙ (s.occupied n x.old x.was ∙ ap Some x.view);
    single = λ a b d e h g same. let x = kin a d h in let y = kin b e g in s.single a b x.old y.old x.was y.was (sym x.slot ∙ (same ∙ y.slot));
    apart = λ n f h. let x = kin n f h in ap (λ i. times i v.free) x.slot ∙ s.apart n x.old x.was;
    found = λ key i h. let x = s.found key i h in (x.0, c.links j key x.0 ne x.1, named-linked key x.0 x.1 ∙ x.2);
    finds = λ key n h. let x = c.linked j key n ne h in s.finds key n x ∙ ap Some (sym (named-linked key n x));
    counted = s.counted ∙ sym (c.counts j ne);
  }

kept-linked : (es : List Element) (k : ℕ) (key : List ℕ) (n : ℕ) → (h : IsLinkedAt es k key n) → IsElementKept es k n h.element
kept-linked es k key n h = record { born = h.born; in_map = h.in_map; kept = ap is_reclaimed h.linked }

-- the element of a key is unlinked
module _ (slots : List ℕ) (k : ℕ) (es : List Element) (v : MapView) (key : List ℕ) (n : ℕ) (opened : List Section)
    (s : ElementsStand slots k es v) (h : IsLinkedAt es k key n) where
  abbrev fs : List Element
  fs = slice_set es n (with_life (Unlinked opened) h.element)

  pub unlinks : Changes k slots slots es fs
  unlinks = changes-life k es n h.element (Unlinked opened) h.born h.in_map slots (ap is_reclaimed h.linked)

  back : (a : ℕ) (f : Element) → IsElementKept fs k a f → Kin slots slots k es a f
  back a f g = kin-life slots k es n h.element (Unlinked opened) h.born h.in_map (ap is_reclaimed h.linked) a f g

  other-key : (q : List ℕ) (a : ℕ) → IsLinkedAt es k q a → a ≢ n → q ≢ key
  other-key q a g ne same =
      let x : slice_index slots a ≡ slice_index slots n = same_Some _ _ (sym (s.finds q a g) ∙ (ap (get v.index) same ∙ s.finds key n h)) in
      ne (s.single a n g.element h.element (kept-linked es k q a g) (kept-linked es k key n h) x)

  other-birth : (q : List ℕ) (a : ℕ) → IsLinkedAt es k q a → q ≢ key → a ≢ n
  other-birth q a g ne same = ne (sym g.under ∙ (ap (λ (z : Element). z.key)
      (same_Some g.element h.element (sym g.born ∙ (ap (slice_get es) same ∙ h.born))) ∙ h.under))

  found-left : (q : List ℕ) (i : ℕ) → get (remove v.index key) q ≡ Some i → (a : ℕ) × IsLinkedAt fs k q a × (slice_index slots a ≡ i)
  found-left q i g = elim (key_cases q key) [
    | inl same ↦ absurd (none-some i (sym (remove-same v.index key) ∙ (ap (get (remove v.index key)) (sym same) ∙ g)))
    | inr ne ↦
        let x = s.found q i (sym (remove-other v.index key q ne) ∙ g) in
        (x.0, link-kept k es n h.element (Unlinked opened) h.born h.in_map k q x.0 (other-birth q x.0 x.1 ne) x.1, x.2)
  ]

  finds-left : (q : List ℕ) (a : ℕ) → IsLinkedAt fs k q a → get (remove v.index key) q ≡ Some (slice_index slots a)
  finds-left q a g =
      let ne = not-linked k es n h.element (Unlinked opened) h.born h.in_map refl k q a g in
      let x = link-back k es n h.element (Unlinked opened) h.born h.in_map k q a ne g in
      remove-other v.index key q (other-key q a x ne) ∙ s.finds q a x

  counted-left : len (remove v.index key) ≡ linked_count k fs
  counted-left =
      let a = len-remove_found v.index key (slice_index slots n) (s.finds key n h) in
      let b = count-set (λ (e : Element). is_linked e.life && (e.map == k)) es n h.element (with_life (Unlinked opened) h.element) h.born in
      let c : one_of (is_linked h.element.life && (h.element.map == k)) ≡ 1 =
      ap (λ l. one_of (is_linked l && (h.element.map == k))) h.linked ∙
      ap one_of (eq-eqb h.element.map k h.in_map) in
      let d : len v.index ≡ linked_count k es = s.counted in
      omega arith

  pub elements-retired : ElementsStand slots k fs (retired_slot v key (Some (slice_index slots n)))
  elements-retired = record {
    occupied = λ a f g. let x = back a f g in s.occupied a x.old x.was ∙ ap Some x.view;
    single = λ a b d e g i same. let x = back a d g in let y = back b e i in s.single a b x.old y.old x.was y.was same;
    apart = λ a f g. let x = back a f g in s.apart a x.old x.was;
    found = found-left;
    finds = finds-left;
    counted = counted-left;
  }

-- an element is reclaimed
module _ (slots : List ℕ) (k : ℕ) (es : List Element) (v : MapView) (n : ℕ) (e : Element) (since : List Section)
    (s : ElementsStand slots k es v) (born : slice_get es n ≡ Some e) (life : e.life ≡ Unlinked since)
    (in_map : e.map ≡ k) where
  abbrev rs : List Element
  rs = slice_set es n (with_life Reclaimed e)

  pub reclaims : Changes k slots slots es rs
  reclaims = changes-life k es n e Reclaimed born in_map slots (ap is_reclaimed life)

  kept-one : IsElementKept es k n e
  kept-one = record { born = born; in_map = in_map; kept = ap is_reclaimed life }

  was : (a : ℕ) (f : Element) → IsElementKept rs k a f → Kin slots slots k es a f
  was a f g = kin-life slots k es n e Reclaimed born in_map (ap is_reclaimed life) a f g

  another : (a : ℕ) (f : Element) → IsElementKept rs k a f → a ≢ n
  another a f g same = false≢true (sym g.kept ∙ ap (λ (z : Element). is_reclaimed z.life)
      (same_Some f (with_life Reclaimed e) (sym g.born ∙
      (ap (slice_get rs) same ∙ get-set_there es n e (with_life Reclaimed e) born))))

  was-linked : (q : List ℕ) (a : ℕ) → IsLinkedAt es k q a → a ≢ n
  was-linked q a g same =
      let x : g.element ≡ e = same_Some g.element e (sym g.born ∙ (ap (slice_get es) same ∙ born)) in
      false≢true (sym (ap is_linked life) ∙ (ap (λ (z : Element). is_linked z.life) (sym x) ∙ ap is_linked g.linked))

  apart-given : (given : Given) (a : ℕ) (f : Element) → IsElementKept rs k a f →
      times (slice_index slots a) (slot_given_back given (slice_index slots n) v).free ≡ 0
  apart-given Free a f g =
      let x = was a f g in
      let ne : slice_index slots n ≢ slice_index slots a = λ same. another a f g (s.single a n x.old e x.was kept-one (sym same)) in
      let z : times (slice_index slots a) (slice_index slots n ∷ []) ≡ 0 = times-other (slice_index slots a) (slice_index slots n) [] ne in
      let t = times-append (slice_index slots a) v.free (slice_index slots n ∷ []) in
      let y : times (slice_index slots a) v.free ≡ 0 = s.apart a x.old x.was in
      omega arith
  apart-given Worn a f g = let x = was a f g in s.apart a x.old x.was

  counted-same : len v.index ≡ linked_count k rs
  counted-same =
      let b = count-set (λ (x : Element). is_linked x.life && (x.map == k)) es n e (with_life Reclaimed e) born in
      let c : one_of (is_linked e.life && (e.map == k)) ≡ 0 = ap (λ l. one_of (is_linked l && (e.map == k))) life in
      let d : len v.index ≡ linked_count k es = s.counted in
      omega arith

  -- the parts that the map slot's return doesn't touch
  occupied-rest : (a : ℕ) (f : Element) → IsElementKept rs k a f → slice_get v.slots (slice_index slots a) ≡ Some (slot_view f)
  occupied-rest a f g = let x = was a f g in s.occupied a x.old x.was ∙ ap Some x.view

  single-rest : (a b : ℕ) (d f : Element) → IsElementKept rs k a d → IsElementKept rs k b f → slice_index slots a ≡ slice_index slots b → a ≡ b
  single-rest a b d f g i same = let x = was a d g in let y = was b f i in s.single a b x.old y.old x.was y.was same

  found-rest : (q : List ℕ) (i : ℕ) → get v.index q ≡ Some i → (a : ℕ) × IsLinkedAt rs k q a × (slice_index slots a ≡ i)
  found-rest q i g = let x = s.found q i g in (x.0, link-kept k es n e Reclaimed born in_map k q x.0 (was-linked q x.0 x.1) x.1, x.2)

  finds-rest : (q : List ℕ) (a : ℕ) → IsLinkedAt rs k q a → get v.index q ≡ Some (slice_index slots a)
  finds-rest q a g = s.finds q a (link-back k es n e Reclaimed born in_map k q a (not-linked k es n e Reclaimed born in_map refl k q a g) g)

  pub elements-given : (given : Given) → ElementsStand slots k rs (slot_given_back given (slice_index slots n) v)
  elements-given Free = record {
    occupied = occupied-rest;
    single = single-rest;
    apart = apart-given Free;
    found =
        found-rest;
    finds = finds-rest;
    counted = counted-same;
  }
  elements-given Worn = record {
    occupied = occupied-rest;
    single = single-rest;
    apart = apart-given Worn;
    found =
        found-rest;
    finds = finds-rest;
    counted = counted-same;
  }

-- an element is born in the first free map slot
module _ (slots : List ℕ) (k : ℕ) (es : List Element) (v : MapView) (i : ℕ) (rest key value : List ℕ) (s : ElementsStand slots k es v) (free : SlotsStand v)
    (births : length slots ≡ length es) (first : v.free ≡ i ∷ rest) (absent : get v.index key ≡ None) where
  abbrev count : ℕ
  count = uses_at v.slots i

  abbrev child : Element
  child = newborn k key value count

  abbrev gs : List Element
  gs = es ++ child ∷ []

  abbrev names : List ℕ
  names = slots ++ i ∷ []

  times-free : times i v.free ≡ 1 + times i rest
  times-free = ap (times i) first ∙ times-first i i rest refl

  pub in-range : i < length v.slots
  in-range = let t = times-free in free.inside i (omega arith)

  times-rest : (x : ℕ) → times x v.free ≡ 0 → times x rest ≡ 0
  times-rest x h = elim (cases_eq i x) [
    | inl y ↦ let t : times x v.free ≡ 1 + times x rest = ap (times x) first ∙ times-first x i rest y in absurd (omega arith)
    | inr ne ↦ sym (times-other x i rest ne) ∙ (ap (times x) (sym first) ∙ h)
  ]

  kept-cases : (a : ℕ) (f : Element) → IsElementKept gs k a f → (IsElementKept es k a f × (a < length es)) ⊎ ((a ≡ length es) × (child ≡ f))
  kept-cases a f g = elim (get-append_cases es child a f g.born) [
    | inl x ↦ inl (record { born = x; in_map = g.in_map; kept = g.kept }, slice_get_within es a f x)
    | inr x ↦ inr x
  ]

  old-slot : (a : ℕ) → a < length es → slice_index names a ≡ slice_index slots a
  old-slot a h = index-append slots i a (omega arith)

  new-slot : (a : ℕ) → a ≡ length es → slice_index names a ≡ i
  new-slot a h = index-last slots i a (h ∙ sym births)

  differs : (a : ℕ) (f : Element) → IsElementKept es k a f → slice_index slots a ≢ i
  differs a f g same = let t = times-free in let z : times i v.free ≡ 0 = ap (λ x. times x v.free) (sym same) ∙ s.apart a f g in absurd (omega arith)

  occupied-born : (a : ℕ) (f : Element) → IsElementKept gs k a f → slice_get (filled v i rest key value).slots (slice_index names a) ≡ Some (slot_view f)
  occupied-born a f g = elim (kept-cases a f g) [
    | inl x ↦ ap (slice_get (filled v i rest key value).slots) (old-slot a x.1) ∙
        (get-set_other v.slots i (slice_index slots a) _ (differs a f x.0) ∙ s.occupied a f x.0)
    | inr x ↦
        let old = get-below v.slots i in-range in
        ap (slice_get (filled v i rest key value).slots) (new-slot a x.0) ∙
        (get-set_there v.slots i old.0 _ old.1 ∙ ap (λ (z : Element). Some (slot_view z)) x.1)
  ]

  single-born : (a b : ℕ) (d f : Element) → IsElementKept gs k a d → IsElementKept gs k b f → slice_index names a ≡ slice_index names b → a ≡ b
  single-born a b d f g h same = elim (kept-cases a d g) [
    | inl x ↦ elim (kept-cases b f h) [
      | inl y ↦ s.single a b d f x.0 y.0 (sym (old-slot a x.1) ∙ (same ∙ old-slot b y.1))
      | inr y ↦ absurd (differs a d x.0 (sym (old-slot a x.1) ∙ (same ∙ new-slot b y.0)))
    ]
    | inr x ↦ elim (kept-cases b f h) [
      | inl y ↦ absurd (differs b f y.0 (sym (old-slot b y.1) ∙ (sym same ∙ new-slot a x.0)))
      | inr y ↦ x.0 ∙ sym y.0
    ]
  ]

  apart-born : (a : ℕ) (f : Element) → IsElementKept gs k a f → times (slice_index names a) rest ≡ 0
  apart-born a f g = elim (kept-cases a f g) [
    | inl x ↦ ap (λ z. times z rest) (old-slot a x.1) ∙ times-rest (slice_index slots a) (s.apart a f x.0)
    | inr x ↦ ap (λ z. times z rest) (new-slot a x.0) ∙ (let t = times-free in let o : times i v.free ≤ 1 = free.once i in omega arith)
  ]

  child-linked : IsLinkedAt gs k key (length es)
  child-linked = record { element = child; born = get-append_last es child; linked = refl; in_map = refl; under = refl }

  within : (q : List ℕ) (a : ℕ) → IsLinkedAt es k q a → a < length es
  within q a g = slice_get_within es a g.element g.born

  found-born : (q : List ℕ) (x : ℕ) → get (insert v.index key i) q ≡ Some x → (a : ℕ) × IsLinkedAt gs k q a × (slice_index names a ≡ x)
  found-born q x h = elim (key_cases q key) [
    | inl same ↦ (
      length es,
      subst (λ z. IsLinkedAt gs k z (length es)) (sym same) child-linked,
      new-slot (length es) refl ∙ same_Some i x (sym (insert-same v.index key i) ∙
          (ap (get (insert v.index key i)) (sym same) ∙ h)),
    )
    | inr ne ↦
        let y = s.found q x (sym (insert-other v.index key i q ne) ∙ h) in
        (y.0, link-grown k slots es births i key value count k q y.0 y.1, old-slot y.0 (within q y.0 y.1) ∙ y.2)
  ]

  finds-born : (q : List ℕ) (a : ℕ) → IsLinkedAt gs k q a → get (insert v.index key i) q ≡ Some (slice_index names a)
  finds-born q a h = elim (link-cases k slots es births i key value count k q a h) [
    | inl x ↦
        let there : get v.index q ≡ Some (slice_index slots a) = s.finds q a x in
        let ne : q ≢ key = λ same. none-some (slice_index slots a) (sym absent ∙ (ap (get v.index) (sym same) ∙ there)) in
        insert-other v.index key i q ne ∙ (there ∙ ap Some (sym (old-slot a (within q a x))))
    | inr x ↦ ap (get (insert v.index key i)) (sym x.2) ∙ (insert-same v.index key i ∙ ap Some (sym (new-slot a x.0)))
  ]

  counted-born : len (insert v.index key i) ≡ linked_count k gs
  counted-born =
      let a = len-insert_new v.index key i absent in
      let b = count-born k slots es births i key value count k in
      let c : one_of (k == k) ≡ 1 = ap one_of (eq-eqb k k refl) in
      let d : len v.index ≡ linked_count k es = s.counted in
      omega arith

  pub elements-born : ElementsStand names k gs (filled v i rest key value)
  elements-born = record { occupied = occupied-born; single = single-born; apart = apart-born; found = found-born; finds = finds-born; counted = counted-born }

  pub slots-born : SlotsStand (filled v i rest key value)
  slots-born = record {
    room = length-set v.slots i _ ∙ free.room;
    once = λ x. elim (cases_eq i x) [
      | inl y ↦ let t : times x v.free ≡ 1 + times x rest = ap (times x) first ∙
          times-first x i rest y in let o : times x v.free ≤ 1 = free.once x in omega arith
      | inr ne ↦ let t : times x v.free ≡ times x rest = ap (times x) first ∙ times-other x i rest ne in let o : times x v.free ≤ 1 = free.once x in omega arith
    ];
    inside = λ x h. subst (λ z. x < z) (sym (length-set v.slots i _)) (elim (cases_eq i x) [
      | inl y ↦ let t : times x v.free ≡ 1 + times x rest = ap (times x) first ∙ times-first x i rest y in free.inside x (omega arith)
      | inr ne ↦ let t : times x v.free ≡ times x rest = ap (times x) first ∙ times-other x i rest ne in free.inside x (omega arith)
    ]);
  }
