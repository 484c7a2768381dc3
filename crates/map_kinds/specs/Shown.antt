-- What is seen of a map, and what is kept of it.
use Rattle.std.specs.Prelude.{◌≡◌, ℕ, ◌+◌, ◌≤◌, ◌==◌, List, Option, Some, None}
use Rattle.std.specs.Prelude.{if◌then◌else◌, slice_get, length, count_by}
use Rattle.std.specs.FinMap.{get, len}
use Rattle.bpf_model.specs.declared.call.Errno.{Errno}
use Rattle.bpf_model.specs.declared.call.Errno.TheVariants.{NoMemory}
use Rattle.bpf_model.specs.declared.event.Given.{Given}
use Rattle.bpf_model.specs.declared.limits.MapKind.TheVariants.{Hash}
use Rattle.bpf_model.specs.declared.limits.MapShape.{MapShape}
use Rattle.bpf_model.specs.MapState.{MapState, slots_of_shape}
use Rattle.bpf_model.specs.Shapes.{IsShape}
use Rattle.bpf_model.specs.View.{KeyMap, MapView}
use Rattle.bpf_model.specs.Refines.{lists_of}
use Rattle.element_store.specs.State.{ArenaState, key_at, value_at}
use Rattle.hash_index.specs.Order.{IsAbove, NoneBetween}
use Rattle.model_laws.specs.Views.{given_at, reaped_view}
use Rattle.map_kinds.specs.Parted.{PartsView, IsInUse}

abbrev pub map_view : MapShape → PartsView → MapView
map_view shape p = record {
  shape = shape;
  slots = p.arena.slots;
  free = p.arena.free;
  index = p.index;
  next = p.lists.next;
  waiting = p.lists.waiting;
  ready = p.lists.ready;
  worn = count_by (λ b. b) p.arena.worn;
}

-- the arena has as many slots as the shape says, for keys and values of its lengths, which may be
-- used as often as it says
pub record IsOfShape (shape : MapShape) (a : ArenaState) : Type 0 where
  pub slots : length a.slots ≡ slots_of_shape shape
  pub key_len : a.key_len ≡ shape.key_len
  pub value_len : a.value_len ≡ shape.value_len
  pub limit : a.limit ≡ shape.reuse_limit
  pub keys : (i : ℕ) → length (key_at a.slots i) ≤ shape.key_len
  pub values : (i : ℕ) → length (value_at a.slots i) ≤ shape.value_len

-- each key of the index has this length
abbrev pub AreKeysLong : KeyMap → ℕ → Type 0
AreKeysLong index n = (key : List ℕ) (i : ℕ) → get index key ≡ Some i → length key ≡ n

-- A map may have the shape, which is a hash map's, the arena is of it, its keys have the shape's
-- length, and so many slots are linked.
pub record IsMap (shape : MapShape) (p : PartsView) (linked : ℕ) : Type 0 where
  pub valid : IsShape shape
  pub hash : shape.kind ≡ Hash
  pub arena : IsOfShape shape p.arena
  pub keys : AreKeysLong p.index shape.key_len
  pub count : linked ≡ len p.index

-- slot i is linked or in one of the three lists
abbrev pub IsOccupied : MapView → ℕ → Type 0
IsOccupied v i = IsInUse v.index v.slots (lists_of v) i

-- The test of an update that fails first, given the first that fails of those before the last: the
-- last asks for a free map slot.
abbrev pub or_no_memory : Option Errno → MapState → Option Errno
or_no_memory (Some e) m = Some e
or_no_memory None m = if length m.bag == 0 then Some NoMemory else None

-- so many slots are linked once a slot is linked in the place of the one that was found
abbrev pub linked_with : Option ℕ → ℕ → ℕ
linked_with None n = n + 1
linked_with (Some i) n = n

-- The first ready slot was given back, with this key.
pub record IsReaped (old new : MapView) (key : List ℕ) (given : Given) : Type 0 where
  pub slot : ℕ
  pub first : slice_get old.ready 0 ≡ Some slot
  pub key_is : key ≡ key_at old.slots slot
  pub given_is : given ≡ given_at old slot
  pub new_is : new ≡ reaped_view old slot

-- The least key above the bound, and the value of its slot.
pub record IsNext (v : MapView) (bound : Option (List ℕ)) (key value : List ℕ) : Type 0 where
  pub slot : ℕ
  pub linked : get v.index key ≡ Some slot
  pub value_is : value ≡ value_at v.slots slot
  pub above : IsAbove bound key
  pub least : NoneBetween v.index bound key
