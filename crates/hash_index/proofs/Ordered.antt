-- A slot joins or leaves a vector of slots.
use Rattle.bpf_model.proofs.Prelude.{◌≡◌, ◌≢◌, ◌∙◌, ℕ, zero, suc, ◌+◌, ◌<◌, ◌≤◌, List, [], ◌∷◌, length, take, drop, Some, None, inl, inr, refl, sym, ap}
use Rattle.bpf_model.proofs.Prelude.{arith, cond, eqb, subst, slice_get, vec_capacity, none-some, same_Some, eqb-true, eqb-false, cases_Bool}
use Rattle.element_store.proofs.Prelude.{ArenaState, IsTaken, key_at, times_in, slot_of, contents_of}
use Rattle.std.specs.Prelude.{insert, remove}
use Rattle.std.specs.FinMap as map
use Rattle.element_store.proofs.Counts.{one_cases, times-append, length_room}
use Rattle.element_store.proofs.Indexing.{get-contents, slot_of-none, contents-insert, contents-remove, unique-insert, unique-remove}
use Rattle.hash_index.specs.declared.sorted.Sorted.{Sorted}
use Rattle.hash_index.specs.Order.{IsAscending}
use Rattle.hash_index.specs.Sorted.{IsPosition, sorted_contents, SortedFits}
use Rattle.hash_index.proofs.Orders.{ascending-insert, ascending-remove}

times_split : (j p : ℕ) (xs : List ℕ) → times_in j (take p xs) + times_in j (drop p xs) ≡ times_in j xs
times_split j zero [] = refl
times_split j zero (x ∷ xs) = omega arith
times_split j (suc p) [] = refl
times_split j (suc p) (x ∷ xs) = omega (arith, times_split j p xs)

times-insert : (j : ℕ) (xs : List ℕ) (p x : ℕ) → times_in j (insert xs p x) ≡ times_in j xs + cond (eqb x j) 1 0
times-insert j xs p x = omega (arith, times-append j (take p xs) (x ∷ drop p xs), times_split j p xs)

times-remove : (xs : List ℕ) (p i j : ℕ) → slice_get xs p ≡ Some i → times_in j xs ≡ times_in j (remove xs p) + cond (eqb i j) 1 0
times-remove [] p i j h = absurd (none-some i h)
times-remove (x ∷ xs) zero i j h = let y : cond {A = ℕ} (eqb x j) 1 0 ≡ cond (eqb i j) 1 0 =
    ap (λ z. cond {A = ℕ} (eqb z j) 1 0) (same_Some x i h) in omega arith
times-remove (x ∷ xs) (suc p) i j h = omega (arith, times-remove xs p i j h)

-- a slot whose key is absent is not there
pub absent_gone : (a : ArenaState) (xs : List ℕ) (slot : ℕ) → map.get (contents_of (key_at a.slots) xs) (key_at a.slots slot) ≡ None → times_in slot xs ≡ 0
absent_gone a xs slot h = elim (cases_Bool (eqb (times_in slot xs) 0)) [
  | inl y ↦ eqb-true _ 0 y
  | inr y ↦ let ne : times_in slot xs ≢ 0 = eqb-false _ 0 y in absurd
      (slot_of-none (key_at a.slots) xs (key_at a.slots slot) slot
      (sym (get-contents (key_at a.slots) xs (key_at a.slots slot)) ∙ h) (omega arith) refl)
]

pub has_room : (x : Sorted) (a : ArenaState) (slot : ℕ) → SortedFits x a → IsTaken a slot →
    map.get (sorted_contents x a) (key_at a.slots slot) ≡ None → length x.slots.items < vec_capacity x.slots
has_room x a slot f t absent =
    let l : length x.slots.items < length a.slots = length_room (length a.slots) x.slots.items slot f.once
    (λ j h. (f.taken j h).inside) (absent_gone a x.slots.items slot absent) t.inside in
    let r : length a.slots ≤ vec_capacity x.slots = f.room in omega arith

pub sorted_link : (x y : Sorted) (a : ArenaState) (slot p : ℕ) → SortedFits x a → IsTaken a slot →
    map.get (sorted_contents x a) (key_at a.slots slot) ≡ None →
    IsPosition (key_at a.slots) x.slots.items (key_at a.slots slot) p → y.slots.items ≡ insert x.slots.items p slot →
    vec_capacity x.slots ≤ vec_capacity y.slots →
    SortedFits y a × (sorted_contents y a ≡ map.insert (sorted_contents x a) (key_at a.slots slot) slot)
sorted_link x y a slot p f t absent position e large =
    let none : slot_of (key_at a.slots) x.slots.items (key_at a.slots slot) ≡ None =
    sym (get-contents (key_at a.slots) x.slots.items (key_at a.slots slot)) ∙ absent in
    let gone : times_in slot x.slots.items ≡ 0 = absent_gone a x.slots.items slot absent in
    let more : (j : ℕ) → times_in j y.slots.items ≡ times_in j x.slots.items + cond {A = ℕ} (eqb slot j) 1 0 = λ j.
    ap (times_in j) e ∙ times-insert j x.slots.items p slot in
    let r : length a.slots ≤ vec_capacity x.slots = f.room in (
      record {
        room = omega arith;
        once = λ j. elim (one_cases slot j) [
          | inl z ↦ let n : times_in j x.slots.items ≡ 0 =
              subst (λ k. times_in k x.slots.items ≡ 0) z.0 gone in let o : cond {A = ℕ} (eqb slot j) 1 0 ≡ 1 =
              z.1 in omega (arith, more j)
          | inr n ↦ let u : times_in j x.slots.items ≤ 1 = f.once j in let o : cond {A = ℕ} (eqb slot j) 1 0 ≡ 0 = n.1 in omega (arith, more j)
        ];
        taken = λ j h. elim (one_cases slot j) [
          | inl z ↦ subst (IsTaken a) z.0 t
          | inr n ↦ let o : cond {A = ℕ} (eqb slot j) 1 0 ≡ 0 = n.1 in f.taken j (omega (arith, more j))
        ];
        unique = unique-insert (key_at a.slots) x.slots.items y.slots.items slot f.unique none more;
        order = subst (IsAscending (key_at a.slots)) (sym e) (ascending-insert (key_at a.slots) x.slots.items p slot f.order position none);
      },
      contents-insert (key_at a.slots) x.slots.items y.slots.items slot f.unique none more,
    )

pub sorted_unlink : (x y : Sorted) (a : ArenaState) (slot p : ℕ) → SortedFits x a →
    slice_get x.slots.items p ≡ Some slot → y.slots.items ≡ remove x.slots.items p →
    vec_capacity y.slots ≡ vec_capacity x.slots →
    SortedFits y a × (sorted_contents y a ≡ map.remove (sorted_contents x a) (key_at a.slots slot))
sorted_unlink x y a slot p f at e same =
    let less : (j : ℕ) → times_in j x.slots.items ≡ times_in j y.slots.items + cond {A = ℕ} (eqb slot j) 1 0 = λ j.
    times-remove x.slots.items p slot j at ∙ ap (λ ys. times_in j ys + cond {A = ℕ} (eqb slot j) 1 0) (sym e) in
    let r : length a.slots ≤ vec_capacity x.slots = f.room in (
      record {
        room = omega arith;
        once = λ j. let u : times_in j x.slots.items ≤ 1 = f.once j in omega (arith, less j);
        taken = λ j h. f.taken j (omega (arith, less j));
        unique = unique-remove (key_at a.slots) x.slots.items y.slots.items slot f.unique less;
        order = subst (IsAscending (key_at a.slots)) (sym e) (ascending-remove (key_at a.slots) x.slots.items p f.order);
      },
      contents-remove (key_at a.slots) x.slots.items y.slots.items slot f.unique f.once less,
    )

-- a position in a list that has another name
pub placed : (key : ℕ → List ℕ) (xs ys : List ℕ) (k m : List ℕ) (p : ℕ) → xs ≡ ys → k ≡ m → IsPosition key xs k p → IsPosition key ys m p
placed key xs ys k m p e f h = subst (λ l. IsPosition key l m p) e (subst (λ l. IsPosition key xs l p) f h)
