-- What the cells of an arena show, and what is kept of them.
use Rattle.std.specs.Prelude.{◌≡◌, ℕ, zero, suc, ◌+◌, ◌*◌, ◌<◌, ◌≤◌, ◌^◌, Bool, true, false}
use Rattle.std.specs.Prelude.{List, [], ◌∷◌, Option, Some, None, map, slice_get, slice_set, length}
use Rattle.std.specs.Prelude.{take, drop}
use Rattle.bpf_model.specs.View.{SlotView}
use Rattle.bpf_model.specs.declared.limits.TheConstants.{KEY_BYTES, VALUE_BYTES}
use Rattle.element_store.specs.State.{ArenaState, times_in}
use Rattle.element_store.specs.Threads.{IsThread, walk, last_slot_of}
use Rattle.element_store.specs.declared.cell.Standing.{Standing}
use Rattle.element_store.specs.declared.cell.Standing.TheVariants.{Free, Taken, Worn}
use Rattle.element_store.specs.declared.cell.SlotCell.{SlotCell}

-- the bytes of a slot that was never used aren't seen
abbrev pub shown_bytes : ℕ → List ℕ → List ℕ
shown_bytes zero bytes = []
shown_bytes (suc uses) bytes = bytes

abbrev pub slots_shown : ℕ → ℕ → List SlotCell → List ℕ → List ℕ → List SlotView
slots_shown key_len value_len [] keys values = []
slots_shown key_len value_len (c ∷ cells) keys values =
    record {
      key = shown_bytes c.uses (take key_len keys);
      value = shown_bytes c.uses (take value_len values);
      uses = c.uses;
    } ∷ slots_shown key_len value_len cells (drop key_len keys) (drop value_len values)

abbrev pub is_worn : Standing → Bool
is_worn Free = false
is_worn Taken = false
is_worn Worn = true

abbrev pub free_count : Standing → ℕ
free_count Free = 1
free_count Taken = 0
free_count Worn = 0

abbrev pub taken_count : Standing → ℕ
taken_count Free = 0
taken_count Taken = 1
taken_count Worn = 0

-- only the link of a taken slot is seen
abbrev pub shown_link : Standing → Option ℕ → Option ℕ
shown_link Free o = None
shown_link Taken o = o
shown_link Worn o = None

abbrev pub link_view : SlotCell → Option ℕ
link_view c = shown_link c.standing c.link

abbrev pub raw_of : Option SlotCell → Option ℕ
raw_of None = None
raw_of (Some c) = c.link

-- the link that stands in a slot, whichever list it serves
abbrev pub raw : List SlotCell → ℕ → Option ℕ
raw cells i = raw_of (slice_get cells i)

abbrev pub free_of : List SlotCell → Option ℕ → List ℕ
free_of cells first = walk (length cells) (raw cells) first

abbrev pub state_with : List SlotView → List SlotCell → List ℕ → ℕ → ℕ → ℕ → ArenaState
state_with slots cells free key_len value_len limit = record {
  slots = slots;
  free = free;
  worn = map (λ c. is_worn c.standing) cells;
  links = map link_view cells;
  generations = map (λ c. c.generation) cells;
  key_len = key_len;
  value_len = value_len;
  limit = limit;
}

abbrev pub arena_state_of : List SlotCell → Option ℕ → List ℕ → List ℕ → ℕ → ℕ → ℕ → ArenaState
arena_state_of cells first keys values key_len value_len limit =
    state_with (slots_shown key_len value_len cells keys values) cells (free_of cells first)
    key_len value_len limit

-- The free slots are threaded through the links, from the first to the last. Each has a use left,
-- and no slot was given back more often than it was used.
pub record IsThreaded (cells : List SlotCell) (first last : Option ℕ) (limit : ℕ) (free : List ℕ)
    : Type 0 where
  pub thread : IsThread (raw cells) first free
  pub ends : last ≡ last_slot_of free
  pub once : (j : ℕ) → times_in j free ≤ 1
  pub inside : (j : ℕ) → 0 < times_in j free → j < length cells
  pub standing : (j : ℕ) (c : SlotCell) → slice_get cells j ≡ Some c
      → times_in j free ≡ free_count c.standing
  pub used : (j : ℕ) (c : SlotCell) → slice_get cells j ≡ Some c
      → c.uses + free_count c.standing ≤ limit
  pub given : (j : ℕ) (c : SlotCell) → slice_get cells j ≡ Some c
      → c.generation + taken_count c.standing ≤ c.uses
  pub small : limit < 2 ^ 32

abbrev pub AreCellsKept : List SlotCell → Option ℕ → Option ℕ → ℕ → Type 0
AreCellsKept cells first last limit = IsThreaded cells first last limit (free_of cells first)

-- each cell has its bytes
pub record IsLaidOut (cells : List SlotCell) (keys values : List ℕ) (key_len value_len : ℕ)
    : Type 0 where
  pub key_room : length keys ≡ length cells * key_len
  pub value_room : length values ≡ length cells * value_len
  pub key_bound : key_len ≤ KEY_BYTES
  pub value_bound : value_len ≤ VALUE_BYTES

-- the cell of a slot that was given back once more
abbrev pub given_cell : SlotCell → Standing → SlotCell
given_cell c standing =
    record { uses = c.uses; generation = c.generation + 1; standing = standing; link = None }

-- the last slot of a list whose first one, with this link, leaves it; none where it had no link
abbrev pub last_left : Option ℕ → Option ℕ → Option ℕ
last_left None last = None
last_left (Some i) last = last

-- the first slot of a list to which one is added at the end: that one, where there was no last
abbrev pub first_with : Option ℕ → Option ℕ → ℕ → Option ℕ
first_with first None i = Some i
first_with first (Some l) i = first

abbrev pub relinked : List SlotCell → ℕ → Option ℕ → Option SlotCell → List SlotCell
relinked cells l to None = cells
relinked cells l to (Some c) = slice_set cells l (record c { link = to })

-- the cells once the last slot of a list, if there is one, is linked to one more
abbrev pub linked_behind : List SlotCell → Option ℕ → ℕ → List SlotCell
linked_behind cells None i = cells
linked_behind cells (Some l) i = relinked cells l (Some i) (slice_get cells l)
