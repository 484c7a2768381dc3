-- Where the slots stand after each change of a part.
use Rattle.bpf_model.proofs.Prelude.{◌≡◌, ◌≢◌, ◌∙◌, ℕ, ◌+◌, ◌<◌, ◌≤◌, List, [], ◌∷◌, ◌++◌, length, Option, Some, None, inl, inr, refl, sym, ap, arith, cond}
use Rattle.bpf_model.proofs.Prelude.{eqb, Bool, true, false, subst, drop, slice_get, slice_set, cond-true, cond-false, eqb-true, eqb-false, cases_Bool}
use Rattle.bpf_model.proofs.Prelude.{none-some, same_Some, get, insert, remove, option_cases, Queues, turned, SlotView, uses_at, key_in, KeyMap, length-set}
use Rattle.bpf_model.proofs.Prelude.{get-set_other, get-set_same, key_cases}
use Rattle.element_store.proofs.Prelude.{ArenaState, IsTaken, is_at, indexed, times_in, key_at, worn_at, flag_in, taken, given_back, with_slot_value}
use Rattle.element_store.proofs.Prelude.{is_last_use, queued, retired_lists, reaped_lists}
use Rattle.element_store.proofs.Counts.{one_cases, one_same, one_other, times-append}
use Rattle.hash_index.proofs.Links.{insert_over}
use Rattle.model_laws.proofs.Indices.{insert-same, insert-other}
use Rattle.model_laws.proofs.Lists.{remove-same, remove-other}
use Rattle.map_kinds.specs.Parted.{PartsView, standings, IsParted, IsInHand, IsInUse}

-- a slot that is linked or in a list is taken
pub standing-taken : (p : PartsView) (i : ℕ) → IsParted p → IsInUse p.index p.arena.slots p.lists i → IsTaken p.arena i
standing-taken p i h s =
    let o : standings p i ≤ 1 = h.once i in
    record { inside = h.inside i (omega arith); not_free = omega arith; not_worn = omega arith }

-- a slot in hand stands nowhere
pub held-nowhere : (p : PartsView) (i : ℕ) → IsInHand p i → standings p i ≡ 0
held-nowhere p i h =
    let f : times_in i p.arena.free ≡ 0 = h.taken.not_free in
    let w : worn_at p.arena.worn i ≡ 0 = h.taken.not_worn in
    let l : indexed p.index p.arena.slots i ≡ 0 = h.unlinked in
    let q : queued p.lists i ≡ 0 = h.unlisted in
    omega arith

pub indexed-insert : (m : KeyMap) (slots : List SlotView) (k : List ℕ) (i j : ℕ) → get m k ≡ None → key_at slots i ≡ k
    → indexed (insert m k i) slots j ≡ indexed m slots j + cond (eqb i j) 1 0
indexed-insert m slots k i j none key = elim (key_cases (key_at slots j) k) [
  | inl e ↦
      let z : indexed m slots j ≡ 0 = ap (λ x. is_at (get m x) j) e ∙ ap (λ o. is_at o j) none in
      let l : indexed (insert m k i) slots j ≡ cond {A = ℕ} (eqb i j) 1 0 = ap (λ x. is_at (get (insert m k i) x) j) e
      ∙ ap (λ o. is_at o j) (insert-same m k i) in
      omega arith
  | inr n ↦
      let c : cond {A = ℕ} (eqb i j) 1 0 ≡ 0 = one_other i j (λ e. n (ap (key_at slots) (sym e) ∙ key)) in
      let l : indexed (insert m k i) slots j ≡ indexed m slots j = ap (λ o. is_at o j) (insert-other m k i (key_at slots j) n) in
      omega arith
]

pub indexed-remove : (m : KeyMap) (slots : List SlotView) (k : List ℕ) (i j : ℕ) → get m k ≡ Some i →
    key_at slots i ≡ k → indexed m slots j ≡ indexed (remove m k) slots j + cond (eqb i j) 1 0
indexed-remove m slots k i j some key = elim (key_cases (key_at slots j) k) [
  | inl e ↦
      let z : indexed m slots j ≡ cond {A = ℕ} (eqb i j) 1 0 = ap (λ x. is_at (get m x) j) e ∙ ap (λ o. is_at o j) some in
      let l : indexed (remove m k) slots j ≡ 0 = ap (λ x. is_at (get (remove m k) x) j) e ∙ ap (λ o. is_at o j) (remove-same m k) in
      omega arith
  | inr n ↦
      let c : cond {A = ℕ} (eqb i j) 1 0 ≡ 0 = one_other i j (λ e. n (ap (key_at slots) (sym e) ∙ key)) in
      let l : indexed (remove m k) slots j ≡ indexed m slots j = ap (λ o. is_at o j) (remove-other m k (key_at slots j) n) in
      omega arith
]

-- where each slot stands no more often than before, it stands once at most
fewer : (p r : PartsView) → IsParted p → length r.arena.slots ≡ length p.arena.slots →
    ((j : ℕ) → standings r j ≤ standings p j) → (j : ℕ) → (standings r j ≤ 1) ×
    (0 < standings r j → j < length r.arena.slots)
fewer p r h long less j =
    let o : standings p j ≤ 1 = h.once j in
    let l : standings r j ≤ standings p j = less j in
    (omega arith, λ z. let i : j < length p.arena.slots = h.inside j (omega arith) in omega arith)

-- where one slot more stands, which stood nowhere, each stands once at most
one_more : (p r : PartsView) (i : ℕ) → IsParted p → standings p i ≡ 0 → i < length r.arena.slots →
    length r.arena.slots ≡ length p.arena.slots → ((j : ℕ) → standings r j ≡ standings p j + cond (eqb i j) 1 0) →
    (j : ℕ) → (standings r j ≤ 1) × (0 < standings r j → j < length r.arena.slots)
one_more p r i h nowhere in_ long more j = elim (one_cases i j) [
  | inl y ↦
      let z : standings p j ≡ 0 = subst (λ k. standings p k ≡ 0) y.0 nowhere in
      let c : cond {A = ℕ} (eqb i j) 1 0 ≡ 1 = y.1 in
      let m : standings r j ≡ standings p j + cond {A = ℕ} (eqb i j) 1 0 = more j in
      (omega arith, λ k. subst (λ n. n < length r.arena.slots) y.0 in_)
  | inr n ↦
      let c : cond {A = ℕ} (eqb i j) 1 0 ≡ 0 = n.1 in
      let m : standings r j ≡ standings p j + cond {A = ℕ} (eqb i j) 1 0 = more j in
      let o : standings p j ≤ 1 = h.once j in
      (omega arith, λ z. let k : j < length p.arena.slots = h.inside j (omega arith) in omega arith)
]

-- links say nothing of where a slot stands
pub parted-links : (m : KeyMap) (q : Queues) (a b : ArenaState) → b ≡ record a { links = b.links } →
    IsParted (record { index = m; lists = q; arena = a }) → IsParted (record { index = m; lists = q; arena = b })
parted-links m q a b e h =
    let r : PartsView = record { index = m; lists = q; arena = record a { links = b.links } } in
    let s : IsParted (record { index = m; lists = q; arena = record a { links = b.links } }) =
    record { once = h.once; inside = h.inside; keyed = h.keyed; flags = h.flags } in
    subst (λ z. IsParted (record { index = m; lists = q; arena = z })) (sym e) s

pub parted-inserted : (p : PartsView) (i : ℕ) → IsParted p → IsInHand p i →
    get p.index (key_at p.arena.slots i) ≡ None → IsParted
    (record { index = insert p.index (key_at p.arena.slots i) i; lists = p.lists; arena = p.arena })
parted-inserted p i h held none =
    let k : List ℕ = key_at p.arena.slots i in
    let r : PartsView = record { index = insert p.index (key_at p.arena.slots i) i; lists = p.lists; arena = p.arena } in
    let more : (j : ℕ) → standings (record {
      index = insert p.index (key_at p.arena.slots i) i;
      lists = p.lists;
      arena = p.arena;
    }) j ≡ standings p j + cond (eqb i j) 1 0 =
    (λ j. let n = indexed-insert p.index p.arena.slots (key_at p.arena.slots i) i j none refl in omega arith) in
    let counts = one_more p (record {
      index = insert p.index (key_at p.arena.slots i) i;
      lists = p.lists;
      arena =
          p.arena;
    }) i h (held-nowhere p i held) held.taken.inside refl more in
    record {
      once = λ j. (counts j).0;
      inside = λ j. (counts j).1;
      keyed = keyed;
      flags = h.flags;
    }
  where
    keyed : (q : List ℕ) (j : ℕ) → get (insert p.index (key_at p.arena.slots i) i) q ≡ Some j → key_at p.arena.slots j ≡ q
    keyed q j g = elim (key_cases q (key_at p.arena.slots i)) [
      | inl e ↦
          let s : i ≡ j = same_Some i j (sym (insert-same p.index (key_at p.arena.slots i) i) ∙
          (ap (get (insert p.index (key_at p.arena.slots i) i)) (sym e) ∙ g)) in
          ap (key_at p.arena.slots) (sym s) ∙ sym e
      | inr n ↦ h.keyed q j (sym (insert-other p.index (key_at p.arena.slots i) i q n) ∙ g)
    ]

pub parted-removed : (p : PartsView) (i : ℕ) → IsParted p → get p.index (key_at p.arena.slots i) ≡ Some i →
    IsParted (record { index = remove p.index (key_at p.arena.slots i); lists = p.lists; arena = p.arena })
parted-removed p i h some =
    let less : (j : ℕ) → standings (record {
      index = remove p.index (key_at p.arena.slots i);
      lists = p.lists;
      arena =
          p.arena;
    }) j ≤ standings p j = (λ j. let n = indexed-remove p.index p.arena.slots (key_at p.arena.slots i) i j
    some refl in omega arith) in
    let counts = fewer p (record { index = remove p.index (key_at p.arena.slots i); lists = p.lists; arena = p.arena }) h refl less in
    record {
      once = λ j. (counts j).0;
      inside = λ j. (counts j).1;
      keyed = keyed;
      flags = h.flags;
    }
  where
    keyed : (q : List ℕ) (j : ℕ) → get (remove p.index (key_at p.arena.slots i)) q ≡ Some j → key_at p.arena.slots j ≡ q
    keyed q j g = elim (key_cases q (key_at p.arena.slots i)) [
      | inl e ↦ absurd (none-some j (sym (remove-same p.index (key_at p.arena.slots i)) ∙ (ap (get (remove p.index (key_at p.arena.slots i))) (sym e) ∙ g)))
      | inr n ↦ h.keyed q j (sym (remove-other p.index (key_at p.arena.slots i) q n) ∙ g)
    ]

-- the slot that leaves the index is in hand
pub removed-held : (p : PartsView) (i : ℕ) → IsParted p → get p.index (key_at p.arena.slots i) ≡ Some i →
    IsInHand (record { index = remove p.index (key_at p.arena.slots i); lists = p.lists; arena = p.arena }) i
removed-held p i h some =
    let one : indexed p.index p.arena.slots i ≡ 1 = ap (λ o. is_at o i) some ∙ one_same i in
    let o : standings p i ≤ 1 = h.once i in
    record {
      taken = standing-taken p i h (omega arith);
      unlinked = ap (λ o. is_at o i) (remove-same p.index (key_at p.arena.slots i));
      unlisted = omega arith;
    }

-- a slot in hand is put in the place of the one that was found, which is in hand then
pub parted-put : (p : PartsView) (i : ℕ) (found : Option ℕ) → IsParted p → IsInHand p i → get p.index (key_at p.arena.slots i) ≡ found →
    let r : PartsView = record {
      index = insert p.index (key_at p.arena.slots i) i;
      lists = p.lists;
      arena =
          p.arena;
    } in IsParted r × ((old : ℕ) → found ≡ Some old → IsInHand r old)
parted-put p i None h held g = (parted-inserted p i h held g, λ old o. absurd (none-some old o))
parted-put p i (Some old) h held g =
    let m : KeyMap = p.index in
    let k : key_at p.arena.slots old ≡ key_at p.arena.slots i = h.keyed (key_at p.arena.slots i) old g in
    let some : get p.index (key_at p.arena.slots old) ≡ Some old = ap (get p.index) k ∙ g in
    let qo : IsParted (record { index = remove p.index (key_at p.arena.slots old); lists = p.lists; arena = p.arena }) = parted-removed p old h some in
    let q : IsParted (record { index = remove p.index (key_at p.arena.slots i); lists = p.lists; arena = p.arena }) =
    subst (λ (z : List ℕ). IsParted (record { index = remove p.index z; lists = p.lists; arena = p.arena })) k
    qo in
    let none : get (remove p.index (key_at p.arena.slots i)) (key_at p.arena.slots i) ≡ None = remove-same p.index (key_at p.arena.slots i) in
    let hand : IsInHand (record { index = remove p.index (key_at p.arena.slots i); lists = p.lists; arena = p.arena }) i = record {
      taken = held.taken;
      unlinked = ap (λ o. is_at o i) none;
      unlisted = held.unlisted;
    } in
    let r : IsParted (record {
      index = insert (remove p.index (key_at p.arena.slots i)) (key_at p.arena.slots i) i;
      lists = p.lists;
      arena = p.arena;
    }) = parted-inserted
    (record { index = remove p.index (key_at p.arena.slots i); lists = p.lists; arena = p.arena }) i q hand
    none in
    let out = removed-held p old h some in
    let apart : cond {A = ℕ} (eqb old i) 1 0 ≡ 0 = sym (ap (λ o. is_at o i) g) ∙ held.unlinked in
    let other : i ≢ old = (λ e. let one : cond {A = ℕ} (eqb old i) 1 0 ≡ 1 =
    subst (λ z. cond {A = ℕ} (eqb old z) 1 0 ≡ 1) (sym e) (one_same old) in absurd (omega arith)) in
    let unlinked : is_at (get (insert p.index (key_at p.arena.slots i) i) (key_at p.arena.slots old)) old ≡ 0 =
    ap (λ z. is_at (get (insert p.index (key_at p.arena.slots i) i) z) old) k ∙
    (ap (λ o. is_at o old) (insert-same p.index (key_at p.arena.slots i) i) ∙ one_other i old other) in (
      subst (λ (z : KeyMap). IsParted (record { index = z; lists = p.lists; arena = p.arena })) (insert_over p.index (key_at p.arena.slots i) i) r,
      λ j o. subst (λ n. IsInHand (record {
        index = insert p.index (key_at p.arena.slots i) i;
        lists = p.lists;
        arena = p.arena;
      }) n) (same_Some old j o) (record {
        taken = out.taken;
        unlinked = unlinked;
        unlisted =
            out.unlisted;
      }),
    )

pub parted-retired : (p : PartsView) (i : ℕ) → IsParted p → IsInHand p i →
    IsParted (record { index = p.index; lists = retired_lists p.lists i; arena = p.arena })
parted-retired p i h held =
    let more : (j : ℕ) → standings (record { index = p.index; lists = retired_lists p.lists i; arena = p.arena }) j ≡
    standings p j + cond (eqb i j) 1 0 = (λ j. let n : times_in j (p.lists.next ++ i ∷ []) ≡ times_in j
    p.lists.next + (cond {A = ℕ} (eqb i j) 1 0 + 0) = times-append j p.lists.next (i ∷ []) in omega arith) in
    let counts = one_more p (record { index = p.index; lists = retired_lists p.lists i; arena = p.arena }) i h
    (held-nowhere p i held) held.taken.inside refl more in
    record { once = λ j. (counts j).0; inside = λ j. (counts j).1; keyed = h.keyed; flags = h.flags }

pub parted-turned : (p : PartsView) → IsParted p → IsParted (record { index = p.index; lists = turned p.lists; arena = p.arena })
parted-turned p h =
    let less : (j : ℕ) → standings (record { index = p.index; lists = turned p.lists; arena = p.arena }) j ≤ standings
    p j = (λ j. let n = times-append j p.lists.ready p.lists.waiting in omega arith) in
    let counts = fewer p (record { index = p.index; lists = turned p.lists; arena = p.arena }) h refl less in
    record { once = λ j. (counts j).0; inside = λ j. (counts j).1; keyed = h.keyed; flags = h.flags }

less-drop : (j : ℕ) (xs : List ℕ) → times_in j (drop 1 xs) ≤ times_in j xs
less-drop j [] = omega arith
less-drop j (x ∷ xs) = omega arith

pub parted-reaped : (p : PartsView) → IsParted p → IsParted (record { index = p.index; lists = reaped_lists p.lists; arena = p.arena })
parted-reaped p h =
    let less : (j : ℕ) → standings (record { index = p.index; lists = reaped_lists p.lists; arena = p.arena }) j ≤
    standings p j = (λ j. let n = less-drop j p.lists.ready in omega arith) in
    let counts = fewer p (record { index = p.index; lists = reaped_lists p.lists; arena = p.arena }) h refl less in
    record { once = λ j. (counts j).0; inside = λ j. (counts j).1; keyed = h.keyed; flags = h.flags }

first-times : (xs : List ℕ) (i : ℕ) → slice_get xs 0 ≡ Some i → times_in i xs ≡ 1 + times_in i (drop 1 xs)
first-times [] i h = absurd (none-some i h)
first-times (x ∷ xs) i h = let e : x ≡ i = same_Some x i h in let c : cond {A = ℕ} (eqb x i) 1 0 ≡ 1 =
    subst (λ z. cond {A = ℕ} (eqb x z) 1 0 ≡ 1) e (one_same x) in omega arith

-- the first ready slot, once it has left its list, is in hand
pub reaped-held : (p : PartsView) (i : ℕ) → IsParted p → slice_get p.lists.ready 0 ≡ Some i →
    IsInHand (record { index = p.index; lists = reaped_lists p.lists; arena = p.arena }) i
reaped-held p i h first =
    let f : times_in i p.lists.ready ≡ 1 + times_in i (drop 1 p.lists.ready) = first-times p.lists.ready i first in
    let o : standings p i ≤ 1 = h.once i in
    record { taken = standing-taken p i h (omega arith); unlinked = omega arith; unlisted = omega arith }

module _ (p : PartsView) (i : ℕ) (rest key value : List ℕ) (h : IsParted p) (split : p.arena.free ≡ i ∷ rest) where
  free-times : (j : ℕ) → times_in j p.arena.free ≡ cond {A = ℕ} (eqb i j) 1 0 + times_in j rest
  free-times j = ap (times_in j) split

  pub free-inside : i < length p.arena.slots
  free-inside = h.inside i (omega (arith, free-times i, one_same i))

  pub taken-key : key_at (slice_set p.arena.slots i (record { key = key; value = value; uses = uses_at p.arena.slots i + 1 })) i ≡ key
  taken-key = ap key_in (get-set_same p.arena.slots i _ free-inside)

  pub other-key : (j : ℕ) → j ≢ i → key_at (slice_set p.arena.slots i
      (record { key = key; value = value; uses = uses_at p.arena.slots i + 1 })) j ≡ key_at p.arena.slots j
  other-key j n = ap key_in (get-set_other p.arena.slots i j _ n)

  free-unlinked : indexed p.index p.arena.slots i ≡ 0
  free-unlinked = let o : standings p i ≤ 1 = h.once i in omega (arith, free-times i, one_same i)

  -- no key has the slot that was free
  pub free-unkeyed : (k : List ℕ) (l : ℕ) → get p.index k ≡ Some l → l ≢ i
  free-unkeyed k l g n =
      let ki : key_at p.arena.slots i ≡ k = ap (key_at p.arena.slots) (sym n) ∙ h.keyed k l g in
      let one : indexed p.index p.arena.slots i ≡ 1 = ap (λ c. is_at (get p.index c) i) ki ∙
      (ap (λ o. is_at o i) g ∙ (ap (λ c. cond {A = ℕ} (eqb c i) 1 0) n ∙ one_same i)) in
      let z : indexed p.index p.arena.slots i ≡ 0 = free-unlinked in
      absurd (omega arith)

  taken-unlinked : is_at (get p.index key) i ≡ 0
  taken-unlinked = elim (option_cases (get p.index key)) [
    | inl n ↦ ap (λ o. is_at o i) n
    | inr l ↦ ap (λ o. is_at o i) l.1 ∙ one_other l.0 i (free-unkeyed key l.0 l.1)
  ]

  pub taken-indexed : (j : ℕ) → indexed p.index (slice_set p.arena.slots i
      (record { key = key; value = value; uses = uses_at p.arena.slots i + 1 })) j ≡ indexed p.index p.arena.slots j
  taken-indexed j = elim (cases_Bool (eqb j i)) [
    | inl y ↦
        subst (λ z. indexed p.index (slice_set p.arena.slots i
        (record { key = key; value = value; uses = uses_at p.arena.slots i + 1 })) z ≡ indexed p.index
        p.arena.slots z) (sym (eqb-true j i y))
        (ap (λ c. is_at (get p.index c) i) taken-key ∙ (taken-unlinked ∙ sym free-unlinked))
    | inr n ↦ ap (λ c. is_at (get p.index c) j) (other-key j (eqb-false j i n))
  ]

  pub parted-taken : IsParted (record { index = p.index; lists = p.lists; arena = taken p.arena i rest key value })
  parted-taken =
      let long : length (slice_set p.arena.slots i (record {
        key = key;
        value = value;
        uses =
            uses_at p.arena.slots i + 1;
      })) ≡ length p.arena.slots = length-set p.arena.slots i _ in
      let flags : length p.arena.worn ≡ length p.arena.slots = h.flags in
      let less : (j : ℕ) → standings (record {
        index = p.index;
        lists = p.lists;
        arena =
            taken p.arena i rest key value;
      }) j ≤ standings p j = (λ j. omega (arith, free-times j, taken-indexed j)) in
      let counts = fewer p (record { index = p.index; lists = p.lists; arena = taken p.arena i rest key value }) h long less in
      record {
        once = λ j. (counts j).0;
        inside = λ j. (counts j).1;
        keyed = λ k l g. other-key l (free-unkeyed k l g) ∙ h.keyed k l g;
        flags = omega arith;
      }

  -- the slot that was taken is in hand
  pub taken-held : IsInHand (record { index = p.index; lists = p.lists; arena = taken p.arena i rest key value }) i
  taken-held =
      let long : length (slice_set p.arena.slots i (record {
        key = key;
        value = value;
        uses =
            uses_at p.arena.slots i + 1;
      })) ≡ length p.arena.slots = length-set p.arena.slots i _ in
      let o : standings p i ≤ 1 = h.once i in
      let in_ : i < length p.arena.slots = free-inside in
      record {
        taken = record { inside = omega arith; not_free = omega (arith, free-times i, one_same i); not_worn = omega (arith, free-times i, one_same i) };
        unlinked = taken-indexed i ∙ free-unlinked;
        unlisted = omega (arith, free-times i, one_same i);
      }

module _ (p : PartsView) (i : ℕ) (h : IsParted p) (held : IsInHand p i) where
  given-worn : is_last_use p.arena i ≡ true → (j : ℕ) →
      standings (record { index = p.index; lists = p.lists; arena = given_back p.arena i }) j ≡ standings p j + cond
      (eqb i j) 1 0
  given-worn y j =
      let flags : length p.arena.worn ≡ length p.arena.slots = h.flags in
      let in_slots : i < length p.arena.slots = held.taken.inside in
      let in_ : i < length p.arena.worn = omega arith in
      let w : worn_at (slice_set p.arena.worn i true) i ≡ 1 = ap flag_in (get-set_same p.arena.worn i true in_) in
      let w0 : worn_at p.arena.worn i ≡ 0 = held.taken.not_worn in
      let free : times_in j (given_back p.arena i).free ≡ times_in j p.arena.free = ap (times_in j) (cond-true _ _ _ y) in
      let worn : worn_at (given_back p.arena i).worn j ≡ worn_at (slice_set p.arena.worn i true) j = ap (λ z. worn_at z j) (cond-true _ _ _ y) in
      let marked : worn_at (slice_set p.arena.worn i true) j ≡ worn_at p.arena.worn j + cond {A = ℕ} (eqb i j) 1 0 = (elim (cases_Bool (eqb j i)) [
        | inl z ↦ subst (λ k. worn_at (slice_set p.arena.worn i true) k ≡ worn_at p.arena.worn k + cond {A = ℕ}
            (eqb i k) 1 0) (sym (eqb-true j i z)) (omega (arith, one_same i))
        | inr n ↦ let ne : j ≢ i = eqb-false j i n in let o : worn_at (slice_set p.arena.worn i true) j ≡ worn_at
            p.arena.worn j = ap flag_in (get-set_other p.arena.worn i j true ne) in omega
            (arith, one_other i j (λ z. ne (sym z)))
      ]) in
      omega arith

  given-free : is_last_use p.arena i ≡ false → (j : ℕ) →
      standings (record { index = p.index; lists = p.lists; arena = given_back p.arena i }) j ≡ standings p j + cond
      (eqb i j) 1 0
  given-free n j =
      let free : times_in j (given_back p.arena i).free ≡ times_in j (p.arena.free ++ i ∷ []) = ap (times_in j) (cond-false _ _ _ n) in
      let worn : worn_at (given_back p.arena i).worn j ≡ worn_at p.arena.worn j = ap (λ z. worn_at z j) (cond-false _ _ _ n) in
      omega (arith, times-append j p.arena.free (i ∷ []))

  given-flags : length (given_back p.arena i).worn ≡ length p.arena.slots
  given-flags = elim (cases_Bool (is_last_use p.arena i)) [
    | inl y ↦ ap (λ (z : List Bool). length z) (cond-true _ _ _ y) ∙ (length-set p.arena.worn i true ∙ h.flags)
    | inr n ↦ ap (λ (z : List Bool). length z) (cond-false _ _ _ n) ∙ h.flags
  ]

  pub parted-given : IsParted (record { index = p.index; lists = p.lists; arena = given_back p.arena i })
  parted-given =
      let more : (j : ℕ) → standings (record { index = p.index; lists = p.lists; arena = given_back p.arena i }) j ≡
      standings p j + cond (eqb i j) 1 0 = (λ j. elim (cases_Bool (is_last_use p.arena i)) [
        | inl y ↦ given-worn y j
        | inr n ↦ given-free n j
      ]) in
      let counts = one_more p (record { index = p.index; lists = p.lists; arena = given_back p.arena i }) i h
      (held-nowhere p i held) held.taken.inside refl more in
      record { once = λ j. (counts j).0; inside = λ j. (counts j).1; keyed = h.keyed; flags = given-flags }

-- a store keeps each slot's key
pub written-key : (slots : List SlotView) (i j : ℕ) (value : List ℕ) → i < length slots →
    key_at (slice_set slots i (record { key = key_at slots i; value = value; uses = uses_at slots i })) j ≡ key_at
    slots j
written-key slots i j value in_ = elim (cases_Bool (eqb j i)) [
  | inl y ↦ subst (λ z. key_at (slice_set slots i (record {
    key = key_at slots i;
    value = value;
    uses =
        uses_at slots i;
  })) z ≡ key_at slots z) (sym (eqb-true j i y)) (ap key_in (get-set_same slots i _ in_))
  | inr n ↦ ap key_in (get-set_other slots i j _ (eqb-false j i n))
]

pub parted-written : (p : PartsView) (i : ℕ) (value : List ℕ) → IsParted p → i < length p.arena.slots →
    IsParted (record { index = p.index; lists = p.lists; arena = with_slot_value p.arena i value })
parted-written p i value h in_ =
    let long : length (slice_set p.arena.slots i (record {
      key = key_at p.arena.slots i;
      value = value;
      uses =
          uses_at p.arena.slots i;
    })) ≡ length p.arena.slots = length-set p.arena.slots i _ in
    let flags : length p.arena.worn ≡ length p.arena.slots = h.flags in
    let same : (j : ℕ) → indexed p.index (with_slot_value p.arena i value).slots j ≡ indexed p.index p.arena.slots j =
    λ j. ap (λ k. is_at (get p.index k) j) (written-key p.arena.slots i j value in_) in
    let less : (j : ℕ) → standings (record {
      index = p.index;
      lists = p.lists;
      arena =
          with_slot_value p.arena i value;
    }) j ≤ standings p j = (λ j. omega (arith, same j)) in
    let counts = fewer p (record { index = p.index; lists = p.lists; arena = with_slot_value p.arena i value }) h long less in
    record {
      once = λ j. (counts j).0;
      inside = λ j. (counts j).1;
      keyed = λ k j g. written-key p.arena.slots i j value in_ ∙ h.keyed k j g;
      flags = omega arith;
    }

-- a slot that its key has stands
pub linked-stands : (p : PartsView) (i : ℕ) → get p.index (key_at p.arena.slots i) ≡ Some i → IsInUse p.index p.arena.slots p.lists i
linked-stands p i g = let one : indexed p.index p.arena.slots i ≡ 1 = ap (λ o. is_at o i) g ∙ one_same i in omega arith
