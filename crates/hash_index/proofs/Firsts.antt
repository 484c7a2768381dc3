-- The first entry of a finite map above a bound is that of the least key.
use Rattle.bpf_model.proofs.Prelude.{◌≡◌, ◌∙◌, ℕ, List, [], ◌∷◌, Option, Some, None, inl, inr, refl, sym, ap, subst, Bool, true, false, IfSome, IfNone, ◌&&◌}
use Rattle.bpf_model.proofs.Prelude.{nat_cmp, is_lt, Ordering, Less, Equal, Greater, slice_cmp, get, entries, get-entries, KeyMap, cond-true, cond-false}
use Rattle.bpf_model.proofs.Prelude.{false≢true, false_from_ne_true, cases_Bool, none-some, same_key, same_key-true, same-same_key}
use Rattle.std.specs.Prelude.{T}
use Rattle.std.specs.FinMap.{entries_sorted, find, is_sorted}
use Rattle.hash_index.specs.Order.{IsLess, IsAbove, NoneAbove, NoneBetween}
use Rattle.hash_index.specs.Replies.{is_above, first_above}
use Rattle.hash_index.proofs.Orders.{less_other}

left_true : (a b : Bool) → T (a && b) → T a
left_true true b h = tt
left_true false b h = h

right_true : (a b : Bool) → T (a && b) → T b
right_true true b h = h
right_true false b h = absurd h

less_from : (o : Ordering) → T (is_lt o) → o ≡ Less
less_from Less h = refl
less_from Equal h = absurd h
less_from Greater h = absurd h

pub less_tested : (o : Ordering) → is_lt o ≡ true → o ≡ Less
less_tested Less h = refl
less_tested Equal h = absurd (false≢true h)
less_tested Greater h = absurd (false≢true h)

pub above_tested : (bound : Option (List ℕ)) (q : List ℕ) → is_above bound q ≡ true → IsAbove bound q
above_tested None q h = tt
above_tested (Some b) q h = less_tested (slice_cmp nat_cmp b q) h

pub above_test : (bound : Option (List ℕ)) (q : List ℕ) → IsAbove bound q → is_above bound q ≡ true
above_test None q h = refl
above_test (Some b) q h = ap is_lt h

find_head : (e : List ℕ × ℕ) (es : List (List ℕ × ℕ)) → find (slice_cmp nat_cmp) e.0 (e ∷ es) ≡ Some e.1
find_head e es = cond-true _ _ _ (same-same_key e.0 e.0 refl)

-- whether a key comes before those of all entries, as `is_sorted` has it
abbrev below_all : List ℕ → List (List ℕ × ℕ) → Bool
below_all k [] = true
below_all k (e ∷ es) = is_lt (slice_cmp nat_cmp k e.0) && below_all k es

below_behind : (k : List ℕ) (es : List (List ℕ × ℕ)) (q : List ℕ) (j : ℕ) → T (below_all k es) → find (slice_cmp nat_cmp) q es ≡ Some j → IsLess k q
below_behind k [] q j h f = absurd (none-some j f)
below_behind k (e ∷ es) q j h f = elim (cases_Bool (same_key q e.0)) [
  | inl y ↦ subst (IsLess k) (sym (same_key-true q e.0 y))
      (less_from (slice_cmp nat_cmp k e.0) (left_true (is_lt (slice_cmp nat_cmp k e.0)) (below_all k es) h))
  | inr n ↦ below_behind k es q j (right_true (is_lt (slice_cmp nat_cmp k e.0)) (below_all k es) h) (sym (cond-false _ _ _ n) ∙ f)
]

-- what stands behind an entry has a greater key
behind : (e : List ℕ × ℕ) (es : List (List ℕ × ℕ)) (q : List ℕ) (j : ℕ) → T (is_sorted (slice_cmp nat_cmp) (e ∷ es)) →
    find (slice_cmp nat_cmp) q es ≡ Some j → IsLess e.0 q
behind e es q j s h = below_behind e.0 es q j (left_true (below_all e.0 es) (is_sorted (slice_cmp nat_cmp) es) s) h

sorted_behind : (e : List ℕ × ℕ) (es : List (List ℕ × ℕ)) → T (is_sorted (slice_cmp nat_cmp) (e ∷ es)) → T (is_sorted (slice_cmp nat_cmp) es)
sorted_behind e es s = right_true (below_all e.0 es) (is_sorted (slice_cmp nat_cmp) es) s

find_behind : (e : List ℕ × ℕ) (es : List (List ℕ × ℕ)) (q : List ℕ) (j : ℕ) →
    T (is_sorted (slice_cmp nat_cmp) (e ∷ es)) → find (slice_cmp nat_cmp) q es ≡ Some j →
    find (slice_cmp nat_cmp) q (e ∷ es) ≡ Some j
find_behind e es q j s f = cond-false _ _ _ (false_from_ne_true _ (λ y. less_other e.0 q (behind e es q j s f) (sym (same_key-true q e.0 y)))) ∙ f

first_is : (key : ℕ → List ℕ) (bound : Option (List ℕ)) (es : List (List ℕ × ℕ)) →
    T (is_sorted (slice_cmp nat_cmp) es) → (r : Option ℕ) →
    IfSome r (λ i. find (slice_cmp nat_cmp) (key i) es ≡ Some i) → IfSome r (λ i. IsAbove bound (key i)) →
    IfSome r (λ i. (q : List ℕ) (j : ℕ) → find (slice_cmp nat_cmp) q es ≡ Some j → IsAbove bound q → IsLess q (key i)
    → ⊥) → IfNone r ((q : List ℕ) (j : ℕ) → find (slice_cmp nat_cmp) q es ≡ Some j → IsAbove bound q → ⊥) →
    r ≡ first_above bound es
first_is key bound [] s None found above least none = refl
first_is key bound [] s (Some i) found above least none = absurd (none-some i found)
first_is key bound (e ∷ es) s None found above least none = elim (cases_Bool (is_above bound e.0)) [
  | inl y ↦ absurd (none e.0 e.1 (find_head e es) (above_tested bound e.0 y))
  | inr n ↦ first_is key bound es (sorted_behind e es s) None tt tt tt (λ q j f. none q j (find_behind e es q j s f)) ∙ sym (cond-false _ _ _ n)
]
first_is key bound (e ∷ es) s (Some i) found above least none = elim (cases_Bool (is_above bound e.0)) [
  | inl y ↦ elim (cases_Bool (same_key (key i) e.0)) [
    | inl same ↦ sym found ∙ (cond-true _ _ _ same ∙ sym (cond-true _ _ _ y))
    | inr other ↦ absurd (least e.0 e.1 (find_head e es) (above_tested bound e.0 y) (behind e es (key i) i s (sym (cond-false _ _ _ other) ∙ found)))
  ]
  | inr n ↦ elim (cases_Bool (same_key (key i) e.0)) [
    | inl same ↦ absurd (false≢true (sym n ∙ above_test bound e.0 (subst (IsAbove bound) (same_key-true (key i) e.0 same) above)))
    | inr other ↦ first_is key bound es (sorted_behind e es s) (Some i) (sym (cond-false _ _ _ other) ∙ found) above
        (λ q j f. least q j (find_behind e es q j s f)) tt ∙ sym (cond-false _ _ _ n)
  ]
]

-- the reply of an index is that of its finite map
pub next_is : (key : ℕ → List ℕ) (bound : Option (List ℕ)) (m : KeyMap) (r : Option ℕ) →
    IfSome r (λ i. get m (key i) ≡ Some i) → IfSome r (λ i. IsAbove bound (key i)) →
    IfSome r (λ i. NoneBetween m bound (key i)) → IfNone r (NoneAbove m bound) → r ≡ first_above bound (entries m)
next_is key bound m None some above least none = first_is key bound (entries m) (entries_sorted m) None tt tt tt (λ q j f. none q j (get-entries m q ∙ f))
next_is key bound m (Some i) some above least none = first_is key bound (entries m) (entries_sorted m) (Some i)
    (sym (get-entries m (key i)) ∙ some) above (λ q j f. least q j (get-entries m q ∙ f)) tt
