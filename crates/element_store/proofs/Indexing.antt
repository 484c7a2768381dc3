-- The finite map of an index, whatever the order of its slots.
use Rattle.std.proofs.Common.{◌≡◌, ◌≢◌, ◌∙◌, ℕ, ◌+◌, ◌<◌, ◌≤◌, List, [], ◌∷◌, Some, None, inl, inr, refl, sym, ap, arith, cond, eqb, subst}
use Rattle.std.proofs.lemmas.Bool.{cond-true, cond-false, eqb-true, eqb-false, false_from_ne_true, cases_Bool}
use Rattle.std.proofs.lemmas.Option.{none-some, same_Some}
use Rattle.std.proofs.lemmas.Cmp.{nat_list_cmp_total}
use Rattle.std.specs.Cmp.Lexicographic.{slice_cmp}
use Rattle.std.specs.Ordering.{nat_cmp}
use Rattle.std.specs.FinMap as map
use Rattle.std.specs.FinMap.{get, insert, remove, get-insert, get-remove, get-from_entries, same_map, slice_cmp-IsAntisymmetric, nat_cmp-IsAntisymmetric}
use Rattle.bpf_model.specs.View.{KeyMap}
use Rattle.bpf_model.proofs.Cases.{option_cases}
use Rattle.bpf_model.proofs.Keys.{same_key, same_key-true, same_key-false}
use Rattle.element_store.specs.State.{times_in, is_at, entries_of, contents_of, slot_of}
use Rattle.element_store.proofs.Counts.{one_cases, one_same, one_other, times_first}

pub get_at-insert : (m : KeyMap) (k : List ℕ) (v : ℕ) (q : List ℕ) → get (insert m k v) q ≡ cond (same_key q k) (Some v) (get m q)
get_at-insert m k v q = get-insert nat_list_cmp_total m k v q

pub get_at-remove : (m : KeyMap) (k q : List ℕ) → get (remove m k) q ≡ cond (same_key q k) None (get m q)
get_at-remove m k q = get-remove nat_list_cmp_total m k q

pub get-contents : (key : ℕ → List ℕ) (slots : List ℕ) (k : List ℕ) → get (contents_of key slots) k ≡ slot_of key slots k
get-contents key slots k = get-from_entries nat_list_cmp_total (entries_of key slots) k ∙ found slots
  where
    found : (slots : List ℕ) → map.find (slice_cmp nat_cmp) k (entries_of key slots) ≡ slot_of key slots k
    found [] = refl
    found (s ∷ slots) = ap (λ o. cond (same_key k (key s)) (Some s) o) (found slots)

pub slot_of-some : (key : ℕ → List ℕ) (xs : List ℕ) (k : List ℕ) (j : ℕ) → slot_of key xs k ≡ Some j → (0 < times_in j xs) × (key j ≡ k)
slot_of-some key [] k j h = absurd (none-some j h)
slot_of-some key (x ∷ xs) k j h = elim (cases_Bool (same_key k (key x))) [
  | inl y ↦ let e : x ≡ j = same_Some x j (sym (cond-true _ _ _ y) ∙
      h) in (
        subst (λ z. 0 < times_in z (x ∷ xs)) e (times_first x xs),
        ap key (sym e) ∙
            sym (same_key-true k (key x) y),
      )
  | inr f ↦ let r = slot_of-some key xs k j (sym (cond-false _ _ _ f) ∙ h) in let p : 0 < times_in j xs = r.0 in (omega arith, r.1)
]

pub slot_of-absent : (key : ℕ → List ℕ) (xs : List ℕ) (k : List ℕ) → ((j : ℕ) → 0 < times_in j xs → key j ≢ k) → slot_of key xs k ≡ None
slot_of-absent key [] k h = refl
slot_of-absent key (x ∷ xs) k h =
    cond-false _ _ _ (false_from_ne_true _ (λ y. h x (times_first x xs) (sym (same_key-true k (key x) y)))) ∙ slot_of-absent key xs k (λ j p. h j (omega arith))

-- no two of the slots have one key
abbrev pub AreUnique : (ℕ → List ℕ) → List ℕ → Type 0
AreUnique key xs = (i j : ℕ) → 0 < times_in i xs → 0 < times_in j xs → key i ≡ key j → i ≡ j

pub slot_of-none : (key : ℕ → List ℕ) (xs : List ℕ) (k : List ℕ) (j : ℕ) → slot_of key xs k ≡ None → 0 < times_in j xs → key j ≢ k
slot_of-none key [] k j h p = absurd (omega arith)
slot_of-none key (x ∷ xs) k j h p = elim (cases_Bool (same_key k (key x))) [
  | inl y ↦ absurd (none-some x (sym h ∙ cond-true _ _ _ y))
  | inr f ↦ elim (one_cases x j) [
    | inl e ↦ λ z. same_key-false k (key x) f (sym z ∙ ap key (sym e.0))
    | inr n ↦ let o : cond {A = ℕ} (eqb x j) 1 0 ≡ 0 = n.1 in slot_of-none key xs k j (sym (cond-false _ _ _ f) ∙ h) (omega arith)
  ]
]

pub slot_of-present : (key : ℕ → List ℕ) (xs : List ℕ) (k : List ℕ) (j : ℕ) → AreUnique key xs → 0 < times_in j xs → key j ≡ k → slot_of key xs k ≡ Some j
slot_of-present key xs k j unique h e = elim (option_cases (slot_of key xs k)) [
  | inl none ↦ absurd (slot_of-none key xs k j none h e)
  | inr some ↦ let p = slot_of-some key xs k some.0 some.1 in some.1 ∙ ap (λ z. Some z) (unique some.0 j p.0 h (p.1 ∙ sym e))
]

module _ (key : ℕ → List ℕ) (xs ys : List ℕ) (i : ℕ) where
  pub unique-insert : AreUnique key xs → slot_of key xs (key i) ≡ None → ((j : ℕ) → times_in j ys ≡ times_in j xs + cond (eqb i j) 1 0) → AreUnique key ys
  unique-insert unique none more a b ha hb e = elim (one_cases i a) [
    | inl y ↦ elim (one_cases i b) [
      | inl z ↦ sym y.0 ∙ z.0
      | inr n ↦ let o : cond {A = ℕ} (eqb i b) 1 0 ≡ 0 = n.1 in absurd (slot_of-none key xs (key i) b none (omega (arith, more b)) (sym e ∙ ap key (sym y.0)))
    ]
    | inr m ↦ let p : cond {A = ℕ} (eqb i a) 1 0 ≡ 0 = m.1 in elim (one_cases i b) [
      | inl z ↦ absurd (slot_of-none key xs (key i) a none (omega (arith, more a)) (e ∙ ap key (sym z.0)))
      | inr n ↦ let o : cond {A = ℕ} (eqb i b) 1 0 ≡ 0 = n.1 in unique a b (omega (arith, more a)) (omega (arith, more b)) e
    ]
  ]

  slot_of-insert : AreUnique key xs → slot_of key xs (key i) ≡ None →
      ((j : ℕ) → times_in j ys ≡ times_in j xs + cond (eqb i j) 1 0) → (q : List ℕ) →
      slot_of key ys q ≡ cond (same_key q (key i)) (Some i) (slot_of key xs q)
  slot_of-insert unique none more q = let u : AreUnique key ys = unique-insert unique none more in elim (cases_Bool (same_key q (key i))) [
    | inl y ↦ slot_of-present key ys q i u (omega (arith, more i, one_same i)) (sym (same_key-true q (key i) y)) ∙ sym (cond-true _ _ _ y)
    | inr f ↦ elim (option_cases (slot_of key xs q)) [
      | inl n ↦ slot_of-absent key ys q (λ j h. elim (one_cases i j) [
        | inl y ↦ λ e. same_key-false q (key i) f (sym e ∙ ap key (sym y.0))
        | inr ne ↦ let o : cond {A = ℕ} (eqb i j) 1 0 ≡ 0 = ne.1 in slot_of-none key xs q j n (omega (arith, more j))
      ]) ∙ (sym n ∙ sym (cond-false _ _ _ f))
      | inr s ↦ let p = slot_of-some key xs q s.0 s.1 in let p0 : 0 < times_in s.0 xs =
          p.0 in slot_of-present key ys q s.0 u (omega (arith, more s.0)) p.1 ∙ (sym s.1 ∙ sym (cond-false _ _ _ f))
    ]
  ]

  pub contents-insert : AreUnique key xs → slot_of key xs (key i) ≡ None →
      ((j : ℕ) → times_in j ys ≡ times_in j xs + cond (eqb i j) 1 0) →
      contents_of key ys ≡ insert (contents_of key xs) (key i) i
  contents-insert unique none more = same_map nat_list_cmp_total (slice_cmp-IsAntisymmetric nat_cmp-IsAntisymmetric) _ _ (λ q.
      get-contents key ys q ∙ (slot_of-insert unique none more q ∙
      (ap (λ o. cond (same_key q (key i)) (Some i) o) (sym (get-contents key xs q)) ∙
      sym (get_at-insert (contents_of key xs) (key i) i q))))

  pub unique-remove : AreUnique key xs → ((j : ℕ) → times_in j xs ≡ times_in j ys + cond (eqb i j) 1 0) → AreUnique key ys
  unique-remove unique less a b ha hb e = unique a b (omega (arith, less a)) (omega (arith, less b)) e

  slot_of-remove : AreUnique key xs → ((j : ℕ) → times_in j xs ≤ 1) →
      ((j : ℕ) → times_in j xs ≡ times_in j ys + cond (eqb i j) 1 0) → (q : List ℕ) →
      slot_of key ys q ≡ cond (same_key q (key i)) None (slot_of key xs q)
  slot_of-remove unique once less q =
      let here : times_in i xs ≡ times_in i ys + cond {A = ℕ} (eqb i i) 1 0 = less i in
      let top : times_in i xs ≤ 1 = once i in
      elim (cases_Bool (same_key q (key i))) [
        | inl y ↦ slot_of-absent key ys q (λ j h e.
            let same : j ≡ i = unique j i (omega (arith, less j)) (omega (arith, one_same i)) (e ∙ same_key-true q (key i) y) in
            let h' : 0 < times_in i ys = subst (λ z. 0 < times_in z ys) same h in
            absurd (omega (arith, one_same i))) ∙ sym (cond-true _ _ _ y)
        | inr f ↦ elim (option_cases (slot_of key xs q)) [
          | inl n ↦ slot_of-absent key ys q (λ j h. slot_of-none key xs q j n (omega (arith, less j))) ∙ (sym n ∙ sym (cond-false _ _ _ f))
          | inr s ↦
              let p = slot_of-some key xs q s.0 s.1 in
              let p0 : 0 < times_in s.0 xs = p.0 in
              let c : cond {A = ℕ} (eqb i s.0) 1 0 ≡ 0 = one_other i s.0 (λ e. same_key-false q (key i) f (sym p.1 ∙ ap key (sym e))) in
              slot_of-present key ys q s.0 (unique-remove unique less) (omega (arith, less s.0)) p.1 ∙ (sym s.1 ∙ sym (cond-false _ _ _ f))
        ]
      ]

  pub contents-remove : AreUnique key xs → ((j : ℕ) → times_in j xs ≤ 1) →
      ((j : ℕ) → times_in j xs ≡ times_in j ys + cond (eqb i j) 1 0) →
      contents_of key ys ≡ remove (contents_of key xs) (key i)
  contents-remove unique once less = same_map nat_list_cmp_total (slice_cmp-IsAntisymmetric nat_cmp-IsAntisymmetric) _ _ (λ q.
      get-contents key ys q ∙ (slot_of-remove unique once less q ∙
      (ap (λ o. cond (same_key q (key i)) None o) (sym (get-contents key xs q)) ∙
      sym (get_at-remove (contents_of key xs) (key i) q))))

-- the map has each of its slots as often as the list
pub indexed-times : (key : ℕ → List ℕ) (xs : List ℕ) (j : ℕ) → AreUnique key xs → times_in j xs ≤ 1 → is_at (get (contents_of key xs) (key j)) j ≡ times_in j xs
indexed-times key xs j unique once = ap (λ o. is_at o j) (get-contents key xs (key j)) ∙ elim (cases_Bool (eqb (times_in j xs) 0)) [
  | inl y ↦
      let z : times_in j xs ≡ 0 = eqb-true _ 0 y in
      elim (option_cases (slot_of key xs (key j))) [
        | inl n ↦ ap (λ o. is_at o j) n ∙ sym z
        | inr s ↦
            let p = slot_of-some key xs (key j) s.0 s.1 in
            let p0 : 0 < times_in s.0 xs = p.0 in
            ap (λ o. is_at o j) s.1 ∙ (one_other s.0 j (λ e. let w : 0 < times_in j xs = subst (λ x. 0 < times_in x xs) e p0 in absurd (omega arith)) ∙ sym z)
      ]
  | inr f ↦
      let ne : times_in j xs ≢ 0 = eqb-false _ 0 f in
      let one : times_in j xs ≡ 1 = omega arith in
      ap (λ o. is_at o j) (slot_of-present key xs (key j) j unique (omega arith) refl) ∙ (one_same j ∙ sym one)
]

-- what is in the map is what its list has
pub times-get : (key : ℕ → List ℕ) (xs : List ℕ) (k : List ℕ) (j : ℕ) → get (contents_of key xs) k ≡ Some j → (0 < times_in j xs) × (key j ≡ k)
times-get key xs k j h = slot_of-some key xs k j (sym (get-contents key xs k) ∙ h)
