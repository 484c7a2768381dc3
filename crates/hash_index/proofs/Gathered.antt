-- Slots in the order of their keys.
use Rattle.bpf_model.proofs.Prelude.{◌≡◌, ◌≢◌, ◌∙◌, ℕ, zero, suc, ◌<◌, ◌≤◌, List, [], ◌∷◌, length, Option, Some, None, inl, inr, refl, sym, ap, arith, cond}
use Rattle.bpf_model.proofs.Prelude.{eqb, subst, false, get_or, slice_get, sum_by, nat_cmp, is_lt, slice_cmp, false≢true, nat_list_cmp_total, ranks_by}
use Rattle.bpf_model.proofs.Prelude.{sum_by-cons, none-some, same_Some, slice_get_within, get_or_from_slice_get, get, KeyMap}
use Rattle.element_store.proofs.Prelude.{times_in, contents_of}
use Rattle.std.specs.List.Sorted.{IsPermutation, IsSortedByKey}
use Rattle.std.proofs.lemmas.List.Sorted.{sorted_far, sum_by-IsPermutation}
use Rattle.element_store.proofs.Counts.{one_cases, one_same, times_first}
use Rattle.element_store.proofs.Indexing.{AreUnique, get-contents, slot_of-present, times-get}
use Rattle.hash_index.specs.Held.{held_at, index_held}
use Rattle.hash_index.specs.Order.{IsLess, IsAbove, IsAscending, AreInOrder}
use Rattle.hash_index.proofs.Orders.{less_or_more, less_trans, less_other, less_not_back}

times-sum : (j : ℕ) (xs : List ℕ) → times_in j xs ≡ sum_by (λ x. cond (eqb x j) 1 0) xs
times-sum j [] = omega arith
times-sum j (x ∷ xs) = omega (arith, times-sum j xs, sum_by-cons (λ y. cond {A = ℕ} (eqb y j) 1 0) x xs)

-- in another order each slot stands as often
pub times-moved : (j : ℕ) (xs ys : List ℕ) → IsPermutation xs ys → times_in j ys ≡ times_in j xs
times-moved j xs ys p = times-sum j ys ∙ (sum_by-IsPermutation (λ x. cond (eqb x j) 1 0) xs ys p ∙ sym (times-sum j xs))

-- what stands at two places stands twice
twice : (xs : List ℕ) (i j s : ℕ) → i < j → slice_get xs i ≡ Some s → slice_get xs j ≡ Some s → 1 < times_in s xs
twice [] i j s l g h = absurd (none-some s g)
twice (x ∷ xs) i zero s l g h = absurd (omega arith)
twice (x ∷ xs) zero (suc j) s l g h =
    let here : cond {A = ℕ} (eqb x s) 1 0 ≡ 1 = subst (λ z. cond {A = ℕ} (eqb x z) 1 0 ≡ 1) (same_Some x s g) (one_same x) in
    let there : 0 < times_in s xs = held_at xs j s h in
    omega arith
twice (x ∷ xs) (suc i) (suc j) s l g h = let more : 1 < times_in s xs = twice xs i j s (omega arith) g h in omega arith

-- sorted slots with different keys ascend
pub ascends : (key : ℕ → List ℕ) (xs : List ℕ) → IsSortedByKey key (slice_cmp nat_cmp) xs →
    ((j : ℕ) → times_in j xs ≤ 1) → AreUnique key xs → IsAscending key xs
ascends key xs sorted once unique i j s t l g h = less_or_more (key t) (key s) other not_less
  where
    in_ : j < length xs
    in_ = slice_get_within xs j t h

    other : key t ≢ key s
    other e = let same : s ≡ t = sym (unique t s (held_at xs j t h) (held_at xs i s g) e) in
        let two : 1 < times_in s xs = twice xs i j s l g (h ∙ ap (λ z. Some z) (sym same)) in
        absurd (omega (arith, once s))

    not_less : IsLess (key t) (key s) → ⊥
    not_less less = false≢true (sym (subst (λ z. is_lt (slice_cmp nat_cmp (key t) (key z)) ≡ false) (get_or_from_slice_get xs i s 0 g)
        (subst (λ z. is_lt (slice_cmp nat_cmp (key z) (key (get_or xs i 0))) ≡ false) (get_or_from_slice_get xs j t 0 h)
        (sorted_far (λ x y. is_lt (slice_cmp nat_cmp (key x) (key y))) (ranks_by nat_list_cmp_total key) xs sorted i j 0 (omega arith) in_)))
        ∙ ap is_lt less)

above_later : (bound : Option (List ℕ)) (k l : List ℕ) → IsAbove bound k → IsLess k l → IsAbove bound l
above_later None k l a h = tt
above_later (Some b) k l a h = less_trans b k l a h

-- ascending slots are in order, if they are those of the keys above the bound
ordered : (m : KeyMap) (key : ℕ → List ℕ) (xs : List ℕ) (bound : Option (List ℕ)) → IsAscending key xs →
    ((j : ℕ) → 0 < times_in j xs → get m (key j) ≡ Some j) →
    ((j : ℕ) → 0 < times_in j xs → IsAbove bound (key j)) →
    ((k : List ℕ) (j : ℕ) → get m k ≡ Some j → IsAbove bound k → (0 < times_in j xs) × (key j ≡ k)) →
    AreInOrder m key bound xs
ordered m key [] bound asc linked above all = λ k j g a. let p : 0 < times_in j [] = (all k j g a).0 in absurd (omega arith)
ordered m key (x ∷ xs) bound asc linked above all = (
  record {
    linked = linked x (times_first x xs);
    above = above x (times_first x xs);
    least = λ k j g a l. less_not_back k (key x) l (less_from k j g a (λ e. less_other k (key x) l (sym e)));
  },
  ordered m key xs (Some (key x)) (λ i j s t l. asc (suc i) (suc j) s t (omega arith)) (λ j h. linked j (omega arith)) first_less
      (λ k j g a. behind k j g (above_later bound (key x) k (above x (times_first x xs)) a) (less_other (key x) k a)),
)
  where
    first_less : (j : ℕ) → 0 < times_in j xs → IsLess (key x) (key j)
    first_less j h = let p = index_held xs j h in asc 0 (suc p.0) x j (omega arith) refl p.1

    behind : (k : List ℕ) (j : ℕ) → get m k ≡ Some j → IsAbove bound k → key x ≢ k → (0 < times_in j xs) × (key j ≡ k)
    behind k j g a ne = let p = all k j g a in elim (one_cases x j) [
      | inl y ↦ absurd (ne (ap key y.0 ∙ p.1))
      | inr n ↦ let o : cond {A = ℕ} (eqb x j) 1 0 ≡ 0 = n.1 in let q : 0 < times_in j (x ∷ xs) = p.0 in (omega arith, p.1)
    ]

    less_from : (k : List ℕ) (j : ℕ) → get m k ≡ Some j → IsAbove bound k → key x ≢ k → IsLess (key x) k
    less_from k j g a ne = let p = behind k j g a ne in subst (IsLess (key x)) p.1 (first_less j p.0)

-- ascending slots are in order, if they are those of an index
pub contents_ordered : (key : ℕ → List ℕ) (ys xs : List ℕ) → ((j : ℕ) → times_in j xs ≡ times_in j ys) →
    AreUnique key ys → IsAscending key xs → AreInOrder (contents_of key ys) key None xs
contents_ordered key ys xs same unique asc =
    ordered (contents_of key ys) key xs None asc
    (λ j h. get-contents key ys (key j) ∙ slot_of-present key ys (key j) j unique (subst (λ n. 0 < n) (same j) h) refl)
    (λ j h. tt)
    (λ k j g a. let p = times-get key ys k j g in (subst (λ n. 0 < n) (sym (same j)) p.0, p.1))
