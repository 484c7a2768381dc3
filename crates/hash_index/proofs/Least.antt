-- The slot of the least key above a bound, among slots that are looked at one after another.
use Rattle.bpf_model.proofs.Prelude.{◌≡◌, ◌∙◌, ℕ, zero, suc, ◌<◌, List, [], ◌∷◌, ◌++◌, length, Option, Some, None, ◌⊎◌, inl, inr, refl, sym, ap, arith, cond}
use Rattle.bpf_model.proofs.Prelude.{eqb, subst, append_assoc, slice_get, replicate, IfSome, IfNone, append-nil, length-replicate, get, empty, get-replicate}
use Rattle.element_store.proofs.Prelude.{ArenaState, times_in, key_at, link_at, contents_of, IsThread, chain_of}
use Rattle.element_store.proofs.Counts.{one_cases, one_same, times-append}
use Rattle.element_store.proofs.Indexing.{AreUnique, get-contents, slot_of-present, times-get}
use Rattle.hash_index.specs.Order.{IsLess, IsAbove, NoneAbove, NoneBetween, IsLeastOf}
use Rattle.hash_index.specs.Chains.{IsChain}
use Rattle.hash_index.specs.Buckets.{HeadsFit, slots_from, chained_slots}
use Rattle.hash_index.proofs.Orders.{less_trans, less_other}
use Rattle.hash_index.proofs.Steps.{chain_step, chain_at, walk_none}

-- what it says of the finite map
module _ (key : ℕ → List ℕ) (xs : List ℕ) (bound : Option (List ℕ)) where
  pub least_some : AreUnique key xs → (r : Option ℕ) → IsLeastOf key bound xs r → IfSome r (λ i. get (contents_of key xs) (key i) ≡ Some i)
  least_some unique None f = tt
  least_some unique (Some i) f = get-contents key xs (key i) ∙ slot_of-present key xs (key i) i unique f.0 refl

  pub least_is_above : (r : Option ℕ) → IsLeastOf key bound xs r → IfSome r (λ i. IsAbove bound (key i))
  least_is_above None f = tt
  least_is_above (Some i) f = f.1

  pub least_between : (r : Option ℕ) → IsLeastOf key bound xs r → IfSome r (λ i. NoneBetween (contents_of key xs) bound (key i))
  least_between None f = tt
  least_between (Some i) f = λ k j g a l. let p = times-get key xs k j g in f.2 j p.0
      (subst (IsAbove bound) (sym p.1) a) (subst (λ z. IsLess z (key i)) (sym p.1) l)

  pub least_none : (r : Option ℕ) → IsLeastOf key bound xs r → IfNone r (NoneAbove (contents_of key xs) bound)
  least_none None f = λ k j g a. let p = times-get key xs k j g in f j p.0 (subst (IsAbove bound) (sym p.1) a)
  least_none (Some i) f = tt

held_last : (xs : List ℕ) (slot j : ℕ) → 0 < times_in j (xs ++ slot ∷ []) → (0 < times_in j xs) ⊎ (slot ≡ j)
held_last xs slot j h = elim (one_cases slot j) [
  | inl y ↦ inr y.0
  | inr n ↦ let c : cond {A = ℕ} (eqb slot j) 1 0 ≡ 0 = n.1 in inl (omega (arith, times-append j xs (slot ∷ [])))
]

held_front : (xs : List ℕ) (slot j : ℕ) → 0 < times_in j xs → 0 < times_in j (xs ++ slot ∷ [])
held_front xs slot j h = omega (arith, times-append j xs (slot ∷ []))

held_end : (xs : List ℕ) (slot : ℕ) → 0 < times_in slot (xs ++ slot ∷ [])
held_end xs slot = omega (arith, times-append slot xs (slot ∷ []), one_same slot)

-- a further slot
module _ (key : ℕ → List ℕ) (bound : Option (List ℕ)) (slot : ℕ) (xs : List ℕ) where
  pub least_passed : (r : Option ℕ) → (IsAbove bound (key slot) → ⊥) → IsLeastOf key bound xs r → IsLeastOf key bound (xs ++ slot ∷ []) r
  least_passed None out f = λ j h a. elim (held_last xs slot j h) [
    | inl p ↦ f j p a
    | inr e ↦ out (subst (λ z. IsAbove bound (key z)) (sym e) a)
  ]
  least_passed (Some i) out f = (
    held_front xs slot i f.0,
    f.1,
    λ j h a l. elim (held_last xs slot j h) [
      | inl p ↦ f.2 j p a l
      | inr e ↦ out (subst (λ z. IsAbove bound (key z)) (sym e) a)
    ],
  )

  pub least_kept : (i : ℕ) → (IsLess (key slot) (key i) → ⊥) → IsLeastOf key bound xs (Some i) → IsLeastOf key bound (xs ++ slot ∷ []) (Some i)
  least_kept i more f = (
    held_front xs slot i f.0,
    f.1,
    λ j h a l. elim (held_last xs slot j h) [
      | inl p ↦ f.2 j p a l
      | inr e ↦ more (subst (λ z. IsLess (key z) (key i)) (sym e) l)
    ],
  )

  pub least_replaced : (i : ℕ) → IsAbove bound (key slot) → IsLess (key slot) (key i) →
      IsLeastOf key bound xs (Some i) → IsLeastOf key bound (xs ++ slot ∷ []) (Some slot)
  least_replaced i above less f = (
    held_end xs slot,
    above,
    λ j h a l. elim (held_last xs slot j h) [
      | inl p ↦ f.2 j p a (less_trans (key j) (key slot) (key i) l less)
      | inr e ↦ less_other (key j) (key slot) l (ap key (sym e))
    ],
  )

  pub least_first : IsAbove bound (key slot) → IsLeastOf key bound xs None → IsLeastOf key bound (xs ++ slot ∷ []) (Some slot)
  least_first above f = (
    held_end xs slot,
    above,
    λ j h a l. elim (held_last xs slot j h) [
      | inl p ↦ f j p a
      | inr e ↦ less_other (key j) (key slot) l (ap key (sym e))
    ],
  )

-- how far the search for the least key has come: what is the least of the slots of front too
pub record IsScanned (a : ArenaState) (bound : Option (List ℕ)) (first before at least : Option ℕ)
    : Type 0 where
  pub front : List ℕ
  pub split : chain_of a first ≡ front ++ chain_of a at
  pub least_of : (xs : List ℕ) → IsLeastOf (key_at a.slots) bound xs before →
      IsLeastOf (key_at a.slots) bound (xs ++ front) least

-- along a chain
module _ (a : ArenaState) (bound : Option (List ℕ)) (first before : Option ℕ) where
  pub scan_step : (at r least new : Option ℕ) (slot : ℕ) → IsChain a at → at ≡ Some slot → r ≡ link_at a.links slot → IsScanned a bound first before at least →
      ((xs : List ℕ) → IsLeastOf (key_at a.slots) bound xs least →
      IsLeastOf (key_at a.slots) bound (xs ++ slot ∷ []) new) → IsScanned a bound first before r new
  scan_step at r least new slot c e next s more =
      let t = chain_step a slot (chain_at a at slot c e) in
      record {
        front = s.front ++ slot ∷ [];
        split = s.split ∙ (ap (λ o. s.front ++ chain_of a o) e ∙
            (ap (λ l. s.front ++ l) (t.0 ∙ ap (λ o. slot ∷ chain_of a o) (sym next)) ∙
            sym (append_assoc s.front (slot ∷ []) (chain_of a r))));
        least_of = λ xs f. subst (λ l. IsLeastOf (key_at a.slots) bound l new) (append_assoc xs s.front (slot ∷ [])) (more (xs ++ s.front) (s.least_of xs f));
      }

  pub scan_end : (at least : Option ℕ) → at ≡ None → IsScanned a bound first before at least → (xs : List ℕ) →
      IsLeastOf (key_at a.slots) bound xs before → IsLeastOf (key_at a.slots) bound (xs ++ chain_of a first) least
  scan_end at least e s xs f =
      let all : chain_of a first ≡ s.front = s.split ∙
      (ap (λ o. s.front ++ chain_of a o) e ∙ (ap (λ l. s.front ++ l)
      (walk_none (length a.slots) (link_at a.links)) ∙ append-nil s.front)) in
      subst (λ l. IsLeastOf (key_at a.slots) bound (xs ++ l) least) (sym all) (s.least_of xs f)

-- which chains are still to be searched for the least key
pub record IsGathered (a : ArenaState) (bound : Option (List ℕ))
    (heads rest : List (Option ℕ)) (least : Option ℕ) : Type 0 where
  pub done : List ℕ
  pub split : chained_slots heads a ≡ done ++ slots_from (length a.slots) (link_at a.links) rest
  pub least_of : IsLeastOf (key_at a.slots) bound done least

-- over all chains
module _ (a : ArenaState) (bound : Option (List ℕ)) (heads : List (Option ℕ)) where
  pub gather_step : (o : Option ℕ) (rest : List (Option ℕ)) (least new : Option ℕ) → IsGathered a bound heads (o ∷ rest) least →
      ((xs : List ℕ) → IsLeastOf (key_at a.slots) bound xs least →
      IsLeastOf (key_at a.slots) bound (xs ++ chain_of a o) new) → IsGathered a bound heads rest new
  gather_step o rest least new g more = record {
    done = g.done ++ chain_of a o;
    split = g.split ∙ sym (append_assoc g.done (chain_of a o) (slots_from (length a.slots) (link_at a.links) rest));
    least_of = more g.done g.least_of;
  }

-- empty chains
slots_of_none : (count n : ℕ) (next : ℕ → Option ℕ) → slots_from n next (replicate count None) ≡ []
slots_of_none zero n next = refl
slots_of_none (suc count) n next = ap (λ l. l ++ slots_from n next (replicate count None)) (walk_none n next) ∙ slots_of_none count n next

module _ (heads : List (Option ℕ)) (count : ℕ) (a : ArenaState) where
  pub fits_none : heads ≡ replicate count None → 0 < count → HeadsFit heads a
  fits_none e some =
      let slots : chained_slots heads a ≡ [] = ap (slots_from (length a.slots) (link_at a.links)) e ∙ slots_of_none count (length a.slots) (link_at a.links) in
      let long : length heads ≡ count = ap (λ (l : List (Option ℕ)). length l) e ∙ length-replicate {A = Option ℕ} count None in
      let zero_times : (j : ℕ) → times_in j (chained_slots heads a) ≡ 0 = λ j. ap (times_in j) slots in
      let none : (k : ℕ) (o : Option ℕ) → slice_get heads k ≡ Some o → chain_of a o ≡ [] = λ k o h.
      ap (chain_of a) (get-replicate count k None o (ap (λ l. slice_get l k) (sym e) ∙ h)) ∙
      walk_none (length a.slots) (link_at a.links) in
      record {
        some = omega arith;
        thread = λ k o h. subst (IsThread (link_at a.links) o) (sym (none k o h)) (get-replicate count k None o (ap (λ l. slice_get l k) (sym e) ∙ h));
        home = λ k o h j i. let z : times_in j (chain_of a o) ≡ 0 = ap (times_in j) (none k o h) in absurd (omega arith);
        once = λ j. omega (arith, zero_times j);
        taken = λ j i. absurd (omega (arith, zero_times j));
        unique = λ i j hi hj e. absurd (omega (arith, zero_times i));
      }

  pub contents_none : heads ≡ replicate count None → contents_of (key_at a.slots) (chained_slots heads a) ≡ empty
  contents_none e = ap (contents_of (key_at a.slots)) (ap (slots_from (length a.slots) (link_at a.links)) e ∙
      slots_of_none count (length a.slots) (link_at a.links))
