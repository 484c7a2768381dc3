-- The slots of an index in a vector, in the order of their keys.
use Rattle.std.specs.Prelude.{◌≡◌, ℕ, ◌<◌, ◌≤◌, List, Option, Some, length, slice_get, vec_capacity}
use Rattle.std.specs.FinMap.{from_entries}
use Rattle.std.proofs.Common.{arith, sym, subst, ap, ◌∙◌}
use Rattle.bpf_model.specs.View.{KeyMap}
use Rattle.element_store.specs.State.{ArenaState, IsTaken, SameAt, indexed, key_at, times_in}
use Rattle.element_store.specs.State.{contents_of}
use Rattle.element_store.proofs.Indexing.{AreUnique, indexed-times}
use Rattle.hash_index.specs.Order.{IsLess, IsAbove, IsAscending}
use Rattle.hash_index.specs.Held.{held_at}
use Rattle.hash_index.specs.Frame.{entries-agree}
use Rattle.hash_index.specs.declared.sorted.Sorted.{Sorted}
use Rattle.hash_index.specs.declared.place.Place.{Place}

-- each slot is one of the first n
abbrev pub AllWithin : List ℕ → ℕ → Type 0
AllWithin slots n = (j : ℕ) → 0 < times_in j slots → j < n

-- where a key stands, or would: the keys before the position are less, and no other is
pub record IsPosition (key : ℕ → List ℕ) (slots : List ℕ) (k : List ℕ) (position : ℕ) : Type 0 where
  pub within : position ≤ length slots
  pub below : (i s : ℕ) → i < position → slice_get slots i ≡ Some s → IsLess (key s) k
  pub above : (i s : ℕ) → position ≤ i → slice_get slots i ≡ Some s → IsLess (key s) k → ⊥

-- where the keys above a bound begin
pub record IsPositionAbove (key : ℕ →
    List ℕ) (slots : List ℕ) (bound : Option (List ℕ)) (position : ℕ)
    : Type 0 where
  pub below : (i s : ℕ) → i < position → slice_get slots i ≡ Some s → IsAbove bound (key s) → ⊥
  pub above : (i s : ℕ) → position ≤ i → slice_get slots i ≡ Some s → IsAbove bound (key s)

abbrev pub sorted_contents : Sorted → ArenaState → KeyMap
sorted_contents x a = contents_of (key_at a.slots) x.slots.items

-- There is room for each slot of the arena. All slots are taken, stand once, and in the order of
-- their keys, which differ.
pub record SortedFits (x : Sorted) (a : ArenaState) : Type 0 where
  pub room : length a.slots ≤ vec_capacity x.slots
  pub once : (j : ℕ) → times_in j x.slots.items ≤ 1
  pub taken : (j : ℕ) → 0 < times_in j x.slots.items → IsTaken a j
  pub unique : AreUnique (key_at a.slots) x.slots.items
  pub order : IsAscending (key_at a.slots) x.slots.items

pub sorted_own : (x : Sorted) (a : ArenaState) (j : ℕ) → SortedFits x a →
    indexed (sorted_contents x a) a.slots j ≡ times_in j x.slots.items
sorted_own x a j f = indexed-times (key_at a.slots) x.slots.items j f.unique (f.once j)

pub sorted-frame : (x : Sorted) (a b : ArenaState) → SortedFits x a →
    SameAt (indexed (sorted_contents x a) a.slots) a b →
    SortedFits x b × (sorted_contents x b ≡ sorted_contents x a)
sorted-frame x a b f s =
    let own : (j : ℕ) → 0 < times_in j x.slots.items → 0 < indexed (sorted_contents x a) a.slots j =
    λ j h. subst (λ n. 0 < n) (sym (sorted_own x a j f)) h in
    let key : (i j : ℕ) → slice_get x.slots.items i ≡ Some j → key_at b.slots j ≡ key_at a.slots j =
    λ i j h. s.key j (own j (held_at x.slots.items i j h)) in
    let l : length b.slots ≡ length a.slots = s.long in
    let r : length a.slots ≤ vec_capacity x.slots = f.room in (
      record {
        room = omega arith;
        once = f.once;
        taken = λ j h. s.taken j (own j h);
        unique = λ i j hi hj e. f.unique i j hi hj (sym (s.key i (own i hi))
            ∙ (e ∙ s.key j (own j hj)));
        order = λ i j p q l hi hj. subst (λ k. IsLess k (key_at b.slots q)) (sym (key i p hi))
            (subst (IsLess (key_at a.slots p)) (sym (key j q hj)) (f.order i j p q l hi hj));
      },
      ap from_entries (entries-agree (key_at a.slots) (key_at b.slots) x.slots.items
          (λ j h. s.key j (own j h))),
    )

-- the place of a key: its position, and the slot that has the key stands there
abbrev pub sorted_place : Sorted → ArenaState → List ℕ → Place → Type 0
sorted_place x a key p = IsPosition (key_at a.slots) x.slots.items key p.home

pub sorted-stays : (x : Sorted) (a b : ArenaState) (key : List ℕ) (p : Place) → SortedFits x a →
    SameAt (indexed (sorted_contents x a) a.slots) a b → sorted_place x a key p →
    sorted_place x b key p
sorted-stays x a b key p f s h =
    let own : (j : ℕ) → 0 < times_in j x.slots.items → 0 < indexed (sorted_contents x a) a.slots j =
    λ j h. subst (λ n. 0 < n) (sym (sorted_own x a j f)) h in
    let same : (i j : ℕ) → slice_get x.slots.items i ≡ Some j → key_at b.slots j ≡ key_at a.slots j =
    λ i j h. s.key j (own j (held_at x.slots.items i j h)) in
    record {
      within = h.within;
      below = λ i j l e. subst (λ k. IsLess k key) (sym (same i j e)) (h.below i j l e);
      above = λ i j l e g. h.above i j l e (subst (λ k. IsLess k key) (same i j e) g);
    }
