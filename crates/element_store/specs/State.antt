-- What an arena, an index over it and the lists over it are seen as.
use Rattle.std.specs.Prelude.{◌≡◌, ℕ, ◌+◌, ◌<◌, ◌==◌, Bool, true, false, List, [], ◌∷◌, ◌++◌}
use Rattle.std.specs.Prelude.{Option, Some, None, if◌then◌else◌, slice_get, slice_index, slice_set}
use Rattle.std.specs.Prelude.{length, replicate}
use Rattle.std.specs.List.{range_with_len}
use Rattle.std.specs.Ordering.{nat_cmp, eq_by_cmp}
use Rattle.std.specs.Cmp.Lexicographic.{slice_cmp}
use Rattle.std.specs.FinMap.{get, from_entries}
use Rattle.bpf_model.specs.View.{KeyMap, SlotView, key_in, value_in, uses_at, unused_slot}
use Rattle.std.specs.Option.{option_flatten}

-- An arena. Keys and values have these lengths, and a slot may be used so often.
pub record ArenaState : Type 0 where
  pub slots : List SlotView  -- key, value and uses of each slot
  pub free : List ℕ  -- the free slots, the one that is taken next first
  pub worn : List Bool  -- for each slot whether it is worn out
  pub links : List (Option ℕ)  -- for each taken slot its link; None for any other
  pub generations : List ℕ  -- for each slot how often it was given back
  pub key_len : ℕ
  pub value_len : ℕ
  pub limit : ℕ

-- how often a slot stands in a list
abbrev pub times_in : ℕ → List ℕ → ℕ
times_in n [] = 0
times_in n (x ∷ xs) = (if x == n then 1 else 0) + times_in n xs

abbrev pub key_at : List SlotView → ℕ → List ℕ
key_at slots i = key_in (slice_get slots i)

abbrev pub value_at : List SlotView → ℕ → List ℕ
value_at slots i = value_in (slice_get slots i)

abbrev pub link_at : List (Option ℕ) → ℕ → Option ℕ
link_at links i = option_flatten (slice_get links i)

abbrev pub flag_in : Option Bool → ℕ
flag_in None = 0
flag_in (Some b) = if b then 1 else 0

-- 1 for a worn slot, 0 for any other
abbrev pub worn_at : List Bool → ℕ → ℕ
worn_at worn i = flag_in (slice_get worn i)

-- None where the arena has no such slot
abbrev pub generation_at : ArenaState → ℕ → Option ℕ
generation_at a i = slice_get a.generations i

-- a slot that is neither free nor worn
pub record IsTaken (a : ArenaState) (i : ℕ) : Type 0 where
  pub inside : i < length a.slots
  pub not_free : times_in i a.free ≡ 0
  pub not_worn : worn_at a.worn i ≡ 0

abbrev pub is_last_use : ArenaState → ℕ → Bool
is_last_use a i = uses_at a.slots i == a.limit

-- So many slots, all free in their order; none was ever used.
abbrev pub new_arena : ℕ → ℕ → ℕ → ℕ → ArenaState
new_arena slots key_len value_len limit = record {
  slots = replicate slots unused_slot;
  free = range_with_len 0 slots;
  worn = replicate slots false;
  links = replicate slots None;
  generations = replicate slots 0;
  key_len = key_len;
  value_len = value_len;
  limit = limit;
}

-- Slot i is used once more, for this key and value, and rest is free.
abbrev pub taken : ArenaState → ℕ → List ℕ → List ℕ → List ℕ → ArenaState
taken a i rest key value = record a {
  slots = slice_set a.slots i (record { key = key; value = value; uses = uses_at a.slots i + 1 });
  free = rest;
  links = slice_set a.links i None;
}

-- Slot i is the last of the free ones, or worn after its last use.
abbrev pub given_back : ArenaState → ℕ → ArenaState
given_back a i = record a {
  free = if is_last_use a i then a.free else a.free ++ i ∷ [];
  worn = if is_last_use a i then slice_set a.worn i true else a.worn;
  links = slice_set a.links i None;
  generations = slice_set a.generations i (slice_index a.generations i + 1);
}

abbrev pub with_link : ArenaState → ℕ → Option ℕ → ArenaState
with_link a i to = record a { links = slice_set a.links i to }

-- slot i has another value
abbrev pub with_slot_value : ArenaState → ℕ → List ℕ → ArenaState
with_slot_value a i value =
    let new : SlotView = record {
      key = key_at a.slots i;
      value = value;
      uses = uses_at a.slots i;
    } in
    record a { slots = slice_set a.slots i new }

-- b is a but for the links of slots that own counts
pub record LinksOf (own : ℕ → ℕ) (a b : ArenaState) : Type 0 where
  pub rest : b ≡ record a { links = b.links }
  pub others : (j : ℕ) → own j ≡ 0 → link_at b.links j ≡ link_at a.links j

-- at the slots that own counts, which are taken, b has the keys and links of a
pub record SameAt (own : ℕ → ℕ) (a b : ArenaState) : Type 0 where
  pub long : length b.slots ≡ length a.slots
  pub key : (j : ℕ) → 0 < own j → key_at b.slots j ≡ key_at a.slots j
  pub link : (j : ℕ) → 0 < own j → link_at b.links j ≡ link_at a.links j
  pub taken : (j : ℕ) → 0 < own j → IsTaken b j

abbrev pub is_at : Option ℕ → ℕ → ℕ
is_at None j = 0
is_at (Some i) j = if i == j then 1 else 0

-- 1 for a slot that the map has under the slot's key, 0 for any other
abbrev pub indexed : KeyMap → List SlotView → ℕ → ℕ
indexed m slots j = is_at (get m (key_at slots j)) j

-- each slot under its key
abbrev pub entries_of : (ℕ → List ℕ) → List ℕ → List (List ℕ × ℕ)
entries_of key [] = []
entries_of key (s ∷ slots) = (key s, s) ∷ entries_of key slots

abbrev pub contents_of : (ℕ → List ℕ) → List ℕ → KeyMap
contents_of key slots = from_entries (entries_of key slots)

-- the first of the slots that has the key
abbrev pub slot_of : (ℕ → List ℕ) → List ℕ → List ℕ → Option ℕ
slot_of key [] k = None
slot_of key (s ∷ slots) k =
    if eq_by_cmp (slice_cmp nat_cmp) k (key s) then Some s else slot_of key slots k
