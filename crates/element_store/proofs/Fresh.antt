-- A new arena: its free slots in their order.
use Rattle.bpf_model.proofs.Prelude.{◌≡◌, ◌≢◌, ◌∙◌, ℕ, zero, suc, ◌+◌, ◌<◌, ◌≤◌, ◌^◌, List, ◌∷◌, Option, Some, None, inl, inr, refl, sym, ap, arith, cond}
use Rattle.bpf_model.proofs.Prelude.{eqb, false, subst, map, replicate, drop, slice_get, nat_lt, ◌-◌, range_with_len, cond-true, cond-false, cases_Bool}
use Rattle.bpf_model.proofs.Prelude.{nat_tests, same_Some, slice_get_within, length-map-range_with_len, unused_slot}
use Rattle.element_store.proofs.Prelude.{times_in, new_arena, IsThread, last_slot_of, fresh_cell, fresh_cells, IsThreaded, raw, raw_of, free_count}
use Rattle.element_store.proofs.Prelude.{taken_count, slots_shown, arena_state_of, is_worn, link_view}
use Rattle.std.specs.Prelude.{SomeIff}
use Rattle.element_store.specs.Fresh.{below}
use Rattle.element_store.specs.declared.cell.SlotCell.{SlotCell}
use Rattle.element_store.proofs.Counts.{one_cases, one_other}
use Rattle.element_store.proofs.Slots.{state-is}
use Rattle.element_store.proofs.Views.{same_state}

pub times-before : (i k j : ℕ) → j < i → times_in j (range_with_len i k) ≡ 0
times-before i zero j h = refl
times-before i (suc k) j h =
    let rest : times_in j (range_with_len (i + 1) k) ≡ 0 = times-before (i + 1) k j (omega arith) in
    let ne : i ≢ j = omega arith in
    omega (arith, one_other i j ne)

pub times-once : (i k j : ℕ) → times_in j (range_with_len i k) ≤ 1
times-once i zero j = omega arith
times-once i (suc k) j = elim (one_cases i j) [
  | inl y ↦
      let o : cond {A = ℕ} (eqb i j) 1 0 ≡ 1 = y.1 in
      let e : i ≡ j = y.0 in
      let rest : times_in j (range_with_len (i + 1) k) ≡ 0 = times-before (i + 1) k j (omega arith) in
      omega arith
  | inr n ↦ let o : cond {A = ℕ} (eqb i j) 1 0 ≡ 0 = n.1 in let rest : times_in j (range_with_len (i + 1) k) ≤ 1 = times-once (i + 1) k j in omega arith
]

pub times-below : (i k j : ℕ) → 0 < times_in j (range_with_len i k) → j < i + k
times-below i zero j h = absurd (omega arith)
times-below i (suc k) j h = elim (one_cases i j) [
  | inl y ↦ let e : i ≡ j = y.0 in omega arith
  | inr n ↦
      let o : cond {A = ℕ} (eqb i j) 1 0 ≡ 0 = n.1 in
      let rest : j < (i + 1) + k = times-below (i + 1) k j (omega arith) in
      omega arith
]

times-here : (i k j : ℕ) → i ≤ j → j < i + k → times_in j (range_with_len i k) ≡ 1
times-here i zero j h l = absurd (omega arith)
times-here i (suc k) j h l = elim (one_cases i j) [
  | inl y ↦
      let o : cond {A = ℕ} (eqb i j) 1 0 ≡ 1 = y.1 in
      let e : i ≡ j = y.0 in
      let rest : times_in j (range_with_len (i + 1) k) ≡ 0 = times-before (i + 1) k j (omega arith) in
      omega arith
  | inr n ↦
      let o : cond {A = ℕ} (eqb i j) 1 0 ≡ 0 = n.1 in
      let ne : i ≢ j = n.0 in
      let rest : times_in j (range_with_len (i + 1) k) ≡ 1 = times-here (i + 1) k j (omega arith) (omega arith) in
      omega arith
]

pub last-range : (i k : ℕ) → last_slot_of (range_with_len i (suc k)) ≡ Some (i + k)
last-range i zero = let e : i ≡ i + 0 = omega arith in ap (λ n. Some n) e
last-range i (suc k) = let e : (i + 1) + k ≡ i + suc k = omega arith in last-range (i + 1) k ∙ ap (λ n. Some n) e

get-fresh : (n i k j : ℕ) → j < k → slice_get (map (fresh_cell n) (range_with_len i k)) j ≡ Some (fresh_cell n (i + j))
get-fresh n i zero j h = absurd (omega arith)
get-fresh n i (suc k) zero h = let e : i ≡ i + 0 = omega arith in ap (λ m. Some (fresh_cell n m)) e
get-fresh n i (suc k) (suc j) h = let e : (i + 1) + j ≡ i + suc j = omega arith in get-fresh n (i + 1) k j (omega arith) ∙ ap (λ m. Some (fresh_cell n m)) e

get-new : (n j : ℕ) → j < n → slice_get (fresh_cells n n) j ≡ Some (fresh_cell n j)
get-new n j h = let e : 0 + j ≡ j = omega arith in get-fresh n 0 n j h ∙ ap (λ m. Some (fresh_cell n m)) e

below-some : (i n : ℕ) → i < n → below i n ≡ Some i
below-some i n h = elim (cases_Bool (nat_lt i n)) [
  | inl y ↦ cond-true _ _ _ y
  | inr f ↦ absurd (grind (arith, nat_tests))
]

below-none : (i n : ℕ) → n ≤ i → below i n ≡ None
below-none i n h = elim (cases_Bool (nat_lt i n)) [
  | inl y ↦ absurd (grind (arith, nat_tests))
  | inr f ↦ cond-false _ _ _ f
]

thread-fresh : (n i k : ℕ) → i + k ≡ n → IsThread (raw (fresh_cells n n)) (below i n) (range_with_len i k)
thread-fresh n i zero e = below-none i n (omega arith)
thread-fresh n i (suc k) e =
    let w : i < n = omega arith in
    let r : raw (fresh_cells n n) i ≡ below (i + 1) n = ap raw_of (get-new n i w) in
    (below-some i n w, subst (λ o. IsThread (raw (fresh_cells n n)) o (range_with_len (i + 1) k)) (sym r) (thread-fresh n (i + 1) k (omega arith)))

-- the last of so many
abbrev pub last_below : ℕ → Option ℕ
last_below zero = None
last_below (suc k) = Some k

pub last-checked : (n : ℕ) (o : Option ℕ) → SomeIff o (1 ≤ n) (n - 1) → o ≡ last_below n
last-checked zero None h = refl
last-checked zero (Some x) h = let no : 1 ≤ 0 = h.0 in absurd (omega arith)
last-checked (suc k) None h = let yes : 1 ≤ suc k = omega arith in absurd (h yes)
last-checked (suc k) (Some x) h = let e : suc k - 1 ≡ k = omega arith in ap (λ m. Some m) (h.1 ∙ e)

last-fresh : (n : ℕ) → last_below n ≡ last_slot_of (range_with_len 0 n)
last-fresh zero = refl
last-fresh (suc k) = let e : 0 + k ≡ k = omega arith in sym (last-range 0 k ∙ ap (λ m. Some m) e)

module _ (n limit : ℕ) (some : 1 ≤ limit) (small : limit < 2 ^ 32) where
  fresh-is : (j : ℕ) (c : SlotCell) → slice_get (fresh_cells n n) j ≡ Some c → (j < n) × (c ≡ fresh_cell n j)
  fresh-is j c h =
      let w : j < n = subst (λ m. j < m) (length-map-range_with_len (fresh_cell n) 0 n) (slice_get_within (fresh_cells n n) j c h) in
      (w, sym (same_Some (fresh_cell n j) c (sym (get-new n j w) ∙ h)))

  pub threaded-fresh : IsThreaded (fresh_cells n n) (below 0 n) (last_below n) limit (range_with_len 0 n)
  threaded-fresh = record {
    thread = let e : 0 + n ≡ n = omega arith in thread-fresh n 0 n e;
    ends = last-fresh n;
    once = λ j. times-once 0 n j;
    inside = λ j h. let b : j < 0 + n = times-below 0 n j h in subst (λ m. j < m)
        (sym (length-map-range_with_len (fresh_cell n) 0 n)) (let b' : j < n = omega arith in b');
    standing = λ j c h.
        let f = fresh-is j c h in
        let one : times_in j (range_with_len 0 n) ≡ 1 = times-here 0 n j (omega arith) (let w : j < n = f.0 in omega arith) in
        one ∙ sym (ap (λ (z : SlotCell). free_count z.standing) f.1);
    used = λ j c h. let f = fresh-is j c h in subst (λ (z : SlotCell). z.uses + free_count z.standing ≤ limit) (sym f.1) (omega (arith, some));
    given = λ j c h. let f = fresh-is j c h in subst (λ (z : SlotCell). z.generation + taken_count z.standing ≤ z.uses) (sym f.1) (omega arith);
    small = small;
  }

shown-fresh : (kl vl n i k : ℕ) (ks vs : List ℕ) → slots_shown kl vl (map (fresh_cell n) (range_with_len i k)) ks vs ≡ replicate k unused_slot
shown-fresh kl vl n i zero ks vs = refl
shown-fresh kl vl n i (suc k) ks vs = ap (λ l. unused_slot ∷ l) (shown-fresh kl vl n (i + 1) k (drop kl ks) (drop vl vs))

map-fresh : {A : Type 0} (f : SlotCell → A) (y : A) (n i k : ℕ) → ((j : ℕ) → f (fresh_cell n j) ≡ y) →
    map f (map (fresh_cell n) (range_with_len i k)) ≡ replicate k y
map-fresh f y n i zero h = refl
map-fresh f y n i (suc k) h =
    ap (λ z. z ∷ map f (map (fresh_cell n) (range_with_len (i + 1) k))) (h i)
    ∙ ap (λ l. y ∷ l) (map-fresh f y n (i + 1) k h)

pub state-fresh : (n kl vl limit : ℕ) (ks vs : List ℕ) → 1 ≤ limit → limit < 2 ^ 32 →
    arena_state_of (fresh_cells n n) (below 0 n) ks vs kl vl limit ≡ new_arena n kl vl limit
state-fresh n kl vl limit ks vs some small =
    state-is (fresh_cells n n) (below 0 n) (last_below n) limit (range_with_len 0 n) ks vs kl vl (threaded-fresh n limit some small)
    ∙ same_state _ _ _ _ _ _ _ _ _ _ kl vl limit
    (shown-fresh kl vl n 0 n ks vs)
    refl
    (map-fresh (λ c. is_worn c.standing) false n 0 n (λ j. refl))
    (map-fresh link_view None n 0 n (λ j. refl))
    (map-fresh (λ c. c.generation) 0 n 0 n (λ j. refl))
