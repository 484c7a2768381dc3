-- Byte order, and positions among ascending keys.
use Rattle.bpf_model.proofs.Prelude.{◌≡◌, ◌≢◌, ◌∙◌, ℕ, zero, suc, ◌+◌, ◌<◌, ◌≤◌, List, [], ◌∷◌, length, Option, Some, None, ◌⊎◌, inl, inr, refl, sym, ap}
use Rattle.bpf_model.proofs.Prelude.{arith, subst, slice_get, IfSome, IfNone, nat_cmp, is_lt, Ordering, Less, Equal, Greater, slice_cmp, false≢true}
use Rattle.bpf_model.proofs.Prelude.{nat_list_cmp_total, exact_bytes, none-some, same_Some, slice_get_within, get-below}
use Rattle.element_store.proofs.Prelude.{times_in, slot_of}
use Rattle.std.specs.Prelude.{insert, remove}
use Rattle.std.specs.Ordering.{ordering_reverse}
use Rattle.std.proofs.lemmas.Bool.{cases_order}
use Rattle.std.proofs.lemmas.Cmp.{tied_itself}
use Rattle.element_store.proofs.Indexing.{AreUnique, slot_of-absent, slot_of-present, slot_of-none}
use Rattle.hash_index.specs.Order.{IsLess, IsAscending, IsLeastOf}
use Rattle.hash_index.specs.Held.{held_at, index_held}
use Rattle.hash_index.specs.Sorted.{IsPosition, IsPositionAbove}

pub less_trans : (a b c : List ℕ) → IsLess a b → IsLess b c → IsLess a c
less_trans a b c = nat_list_cmp_total.trans a b c

less_not_equal : (o : Ordering) → o ≡ Less → o ≡ Equal → ⊥
less_not_equal o l e = false≢true (sym (ap is_lt e) ∙ ap is_lt l)

pub less_other : (a b : List ℕ) → IsLess a b → a ≢ b
less_other a b l e = less_not_equal _ l (ap (slice_cmp nat_cmp a) (sym e) ∙ tied_itself nat_list_cmp_total a)

pub less_not_back : (a b : List ℕ) → IsLess a b → IsLess b a → ⊥
less_not_back a b l m = less_other a a (less_trans a b a l m) refl

-- one of two keys that differ is less
pub less_or_more : (a b : List ℕ) → a ≢ b → (IsLess a b → ⊥) → IsLess b a
less_or_more a b ne not_less = by (slice_cmp nat_cmp a b) refl
  where
    by : (o : Ordering) → slice_cmp nat_cmp a b ≡ o → IsLess b a
    by Less h = absurd (not_less h)
    by Equal h = absurd (ne (exact_bytes a b h))
    by Greater h = nat_list_cmp_total.antisymm b a ∙ ap ordering_reverse h

module _ (key : ℕ → List ℕ) (xs : List ℕ) (k : List ℕ) where
  -- the search by halves goes on above the middle
  pub halved_below : (m s : ℕ) → IsAscending key xs → slice_get xs m ≡ Some s → IsLess (key s) k → (i t : ℕ) →
      i < m + 1 → slice_get xs i ≡ Some t → IsLess (key t) k
  halved_below m s asc at l i t h g = elim (cases_order i m) [
    | inl e ↦ subst (λ z. IsLess (key z) k) (same_Some s t (sym at ∙ (ap (slice_get xs) (sym e) ∙ g))) l
    | inr r ↦ elim r [
      | inl less ↦ less_trans (key t) (key s) k (asc i m t s less g at) l
      | inr more ↦ absurd (omega arith)
    ]
  ]

  -- the search by halves goes on below the middle
  pub halved_above : (m s : ℕ) → IsAscending key xs → slice_get xs m ≡ Some s → (IsLess (key s) k → ⊥) → (i t : ℕ) →
      m ≤ i → slice_get xs i ≡ Some t → IsLess (key t) k → ⊥
  halved_above m s asc at not_less i t h g l = elim (cases_order m i) [
    | inl e ↦ not_less (subst (λ z. IsLess (key z) k) (same_Some t s (sym g ∙ (ap (slice_get xs) (sym e) ∙ at))) l)
    | inr r ↦ elim r [
      | inl less ↦ not_less (less_trans (key s) (key t) k (asc m i s t less at g) l)
      | inr more ↦ absurd (omega arith)
    ]
  ]

  module _ (p : ℕ) where
    -- a key that does not stand at its position stands nowhere
    pub not_at_position : IsAscending key xs → IsPosition key xs k p → ((s : ℕ) → slice_get xs p ≡ Some s → key s ≢ k) → (j : ℕ) → 0 < times_in j xs → key j ≢ k
    not_at_position asc f other j h e =
        let r = index_held xs j h in
        elim (cases_order r.0 p) [
          | inl same ↦ other j (ap (slice_get xs) (sym same) ∙ r.1) e
          | inr q ↦ elim q [
            | inl less ↦ less_other (key j) k (f.below r.0 j less r.1) e
            | inr more ↦
                let in_ : r.0 < length xs = slice_get_within xs r.0 j r.1 in
                let s = get-below xs p (omega arith) in
                f.above p s.0 (omega arith) s.1 (subst (IsLess (key s.0)) e (asc p r.0 s.0 j more s.1 r.1))
          ]
        ]

    -- a slot stands at the position of its key
    pub stands_at : (j : ℕ) → IsAscending key xs → IsPosition key xs k p → 0 < times_in j xs → key j ≡ k → slice_get xs p ≡ Some j
    stands_at j asc f h e =
        let r = index_held xs j h in
        elim (cases_order r.0 p) [
          | inl same ↦ ap (slice_get xs) (sym same) ∙ r.1
          | inr q ↦ elim q [
            | inl less ↦ absurd (less_other (key j) k (f.below r.0 j less r.1) e)
            | inr more ↦ absurd (
                let in_ : r.0 < length xs = slice_get_within xs r.0 j r.1 in
                let s = get-below xs p (omega arith) in
                f.above p s.0 (omega arith) s.1 (subst (IsLess (key s.0)) e (asc p r.0 s.0 j more s.1 r.1)))
          ]
        ]

    -- the keys above one that stands at its position begin behind it
    pub above_after : (s : ℕ) → IsAscending key xs → IsPosition key xs k p → slice_get xs p ≡ Some s → key s ≡ k → IsPositionAbove key xs (Some k) (p + 1)
    above_after s asc f at e = record {
      below = λ i t h g l. elim (cases_order i p) [
        | inl same ↦ less_other k (key t) l (sym e ∙ ap key (same_Some s t (sym at ∙ (ap (slice_get xs) (sym same) ∙ g))))
        | inr q ↦ elim q [
          | inl less ↦ less_not_back (key t) k (f.below i t less g) l
          | inr more ↦ absurd (omega arith)
        ]
      ];
      above = λ i t h g. subst (λ z. IsLess z (key t)) e (asc p i s t (omega arith) at g);
    }

    -- the keys above one that does not stand at its position begin there
    pub above_here : IsAscending key xs → IsPosition key xs k p → ((s : ℕ) → slice_get xs p ≡ Some s → key s ≢ k) → IsPositionAbove key xs (Some k) p
    above_here asc f other = record {
      below = λ i t h g. less_not_back (key t) k (f.below i t h g);
      above = λ i t h g. less_or_more (key t) k (not_at_position asc f other t (held_at xs i t g)) (f.above i t h g);
    }

module _ (key : ℕ → List ℕ) (xs : List ℕ) (k : List ℕ) (p : ℕ) where
  -- what stands at the position of a key, if it has the key, is the slot of the key
  pub found : AreUnique key xs → IsAscending key xs → IsPosition key xs k p → (r : Option ℕ) →
      IfSome r (λ s. slice_get xs p ≡ Some s) → IfSome r (λ s. key s ≡ k) →
      IfNone r ((s : ℕ) → slice_get xs p ≡ Some s → key s ≢ k) → r ≡ slot_of key xs k
  found unique asc f None some same none = sym (slot_of-absent key xs k (not_at_position key xs k p asc f none))
  found unique asc f (Some s) some same none = sym (slot_of-present key xs k s unique (held_at xs p s some) same)

  -- two slots with one key are one
  pub unique-ascending : IsAscending key xs → AreUnique key xs
  unique-ascending asc i j hi hj e =
      let a = index_held xs i hi in
      let b = index_held xs j hj in
      elim (cases_order a.0 b.0) [
        | inl same ↦ same_Some i j (sym a.1 ∙ (ap (slice_get xs) same ∙ b.1))
        | inr q ↦ elim q [
          | inl less ↦ absurd (less_other (key i) (key j) (asc a.0 b.0 i j less a.1 b.1) e)
          | inr more ↦ absurd (less_other (key j) (key i) (asc b.0 a.0 j i more b.1 a.1) (sym e))
        ]
      ]

module _ (key : ℕ → List ℕ) (xs : List ℕ) (bound : Option (List ℕ)) (p : ℕ) where
  pub least_there : (s : ℕ) → IsAscending key xs → IsPositionAbove key xs bound p → slice_get xs p ≡ Some s → IsLeastOf key bound xs (Some s)
  least_there s asc f at = (
    held_at xs p s at,
    f.above p s (omega arith) at,
    λ j h a l.
        let r = index_held xs j h in
        elim (cases_order r.0 p) [
          | inl same ↦ less_other (key j) (key s) l (ap key (same_Some j s (sym r.1 ∙ (ap (slice_get xs) same ∙ at))))
          | inr q ↦ elim q [
            | inl less ↦ f.below r.0 j less r.1 a
            | inr more ↦ less_not_back (key j) (key s) l (asc p r.0 s j more at r.1)
          ]
        ],
  )

  pub none_there : IsPositionAbove key xs bound p → length xs ≤ p → IsLeastOf key bound xs None
  none_there f past j h a =
      let r = index_held xs j h in
      let in_ : r.0 < length xs = slice_get_within xs r.0 j r.1 in
      f.below r.0 j (omega arith) r.1 a

-- what stands at an index after an insertion
inserted_at : (xs : List ℕ) (p x i s : ℕ) → p ≤ length xs → slice_get (insert xs p x) i ≡ Some s →
    ((i < p) × (slice_get xs i ≡ Some s)) ⊎ (((i ≡ p) × (x ≡ s)) ⊎ ((j : ℕ) × (i ≡ suc j) × (p ≤ j) × (slice_get xs j ≡ Some s)))
inserted_at xs zero x zero s h g = inr (inl (refl, same_Some x s g))
inserted_at xs zero x (suc i) s h g = inr (inr (i, refl, omega arith, g))
inserted_at [] (suc p) x i s h g = absurd (omega arith)
inserted_at (y ∷ xs) (suc p) x zero s h g = inl (omega arith, g)
inserted_at (y ∷ xs) (suc p) x (suc i) s h g = elim (inserted_at xs p x i s (omega arith) g) [
  | inl l ↦ let a : i < p = l.0 in inl (omega arith, l.1)
  | inr r ↦ elim r [
    | inl e ↦ inr (inl (ap suc e.0, e.1))
    | inr m ↦ let a : p ≤ m.0 = m.2 in inr (inr (suc m.0, ap suc m.1, omega arith, m.3))
  ]
]

removed_at : (xs : List ℕ) (p i s : ℕ) → slice_get (remove xs p) i ≡ Some s → ((i < p) × (slice_get xs i ≡ Some s))
    ⊎ ((p ≤ i) × (slice_get xs (suc i) ≡ Some s))
removed_at [] zero i s g = absurd (none-some s g)
removed_at [] (suc p) i s g = absurd (none-some s g)
removed_at (x ∷ xs) zero i s g = inr (omega arith, g)
removed_at (x ∷ xs) (suc p) zero s g = inl (omega arith, g)
removed_at (x ∷ xs) (suc p) (suc i) s g = elim (removed_at xs p i s g) [
  | inl l ↦ let a : i < p = l.0 in inl (omega arith, l.1)
  | inr r ↦ let a : p ≤ i = r.0 in inr (omega arith, r.1)
]

module _ (key : ℕ → List ℕ) (xs : List ℕ) (p : ℕ) where
  -- a slot whose key is absent is put at the key's position
  pub ascending-insert : (x : ℕ) → IsAscending key xs → IsPosition key xs (key x) p → slot_of key xs (key x) ≡ None → IsAscending key (insert xs p x)
  ascending-insert x asc f none i j s t less gs gt = elim (inserted_at xs p x i s f.within gs) [
    | inl l ↦ elim (inserted_at xs p x j t f.within gt) [
      | inl m ↦ asc i j s t less l.1 m.1
      | inr r ↦ elim r [
        | inl e ↦ subst (λ z. IsLess (key s) (key z)) e.1 (f.below i s l.0 l.1)
        | inr m ↦ let a : i < p = l.0 in let b : p ≤ m.0 = m.2 in asc i m.0 s t (omega arith) l.1 m.3
      ]
    ]
    | inr q ↦ elim q [
      | inl d ↦ elim (inserted_at xs p x j t f.within gt) [
        | inl m ↦ let a : j < p = m.0 in let b : i ≡ p = d.0 in absurd (omega arith)
        | inr r ↦ elim r [
          | inl e ↦ let a : j ≡ p = e.0 in let b : i ≡ p = d.0 in absurd (omega arith)
          | inr m ↦ subst (λ z. IsLess (key z) (key t)) d.1
              (less_or_more (key t) (key x) (slot_of-none key xs (key x) t none (held_at xs m.0 t m.3))
              (f.above m.0 t m.2 m.3))
        ]
      ]
      | inr u ↦ elim (inserted_at xs p x j t f.within gt) [
        | inl m ↦ let a : j < p = m.0 in let b : p ≤ u.0 = u.2 in let e : i ≡ suc u.0 = u.1 in absurd (omega arith)
        | inr r ↦ elim r [
          | inl d ↦ let a : j ≡ p = d.0 in let b : p ≤ u.0 = u.2 in let e : i ≡ suc u.0 = u.1 in absurd (omega arith)
          | inr m ↦ let a : j ≡ suc m.0 = m.1 in let e : i ≡ suc u.0 = u.1 in asc u.0 m.0 s t (omega arith) u.3 m.3
        ]
      ]
    ]
  ]

  pub ascending-remove : IsAscending key xs → IsAscending key (remove xs p)
  ascending-remove asc i j s t less gs gt = elim (removed_at xs p i s gs) [
    | inl l ↦ elim (removed_at xs p j t gt) [
      | inl m ↦ asc i j s t less l.1 m.1
      | inr m ↦ asc i (suc j) s t (omega arith) l.1 m.1
    ]
    | inr l ↦ elim (removed_at xs p j t gt) [
      | inl m ↦ let a : p ≤ i = l.0 in let b : j < p = m.0 in absurd (omega arith)
      | inr m ↦ asc (suc i) (suc j) s t (omega arith) l.1 m.1
    ]
  ]
