-- What each operation on a map makes of the map's view, as a function of the view.
use Rattle.std.specs.Prelude.{ℕ, ◌+◌, List, [], ◌∷◌, ◌++◌, Option, Some, None, is_some, Result, Ok}
use Rattle.std.specs.Prelude.{Err, slice_get, slice_set, drop}
use Rattle.std.specs.FinMap.{get, insert, remove, len}
use Rattle.arrayvec.specs.ArrayVec.{ArrayVec}
use Rattle.bpf_model.specs.declared.call.Errno.{Errno}
use Rattle.bpf_model.specs.declared.call.Errno.TheVariants.{NoEntry, InvalidArgument}
use Rattle.bpf_model.specs.declared.event.Given.{Given}
use Rattle.bpf_model.specs.declared.event.Given.TheVariants.{Free, Worn}
use Rattle.bpf_model.specs.declared.limits.MapKind.{MapKind}
use Rattle.bpf_model.specs.declared.limits.MapKind.TheVariants.{Hash, Array}
use Rattle.bpf_model.specs.MapState.{given_of}
use Rattle.bpf_model.specs.Helper.{update_error}
use Rattle.bpf_model.specs.Schedule.{Queues, turned}
use Rattle.bpf_model.specs.View.{MapView, key_in, value_in, uses_at, map_state_of}
use Rattle.bpf_model.specs.Refines.{lists_of}

abbrev pub with_lists : Queues → MapView → MapView
with_lists q v = record {
  shape = v.shape;
  slots = v.slots;
  free = v.free;
  index = v.index;
  next = q.next;
  waiting = q.waiting;
  ready = q.ready;
  worn = v.worn;
}

-- the value in a map slot, where one was found
abbrev pub value_shown : MapView → Option ℕ → Option (ArrayVec ℕ)
value_shown v None = None
value_shown v (Some i) = Some (record { items = value_in (slice_get v.slots i) })

-- A lookup: the value in the map slot that the index has for the key.
abbrev pub value_read : MapView → List ℕ → Option (ArrayVec ℕ)
value_read v key = value_shown v (get v.index key)

-- The element of a key, where it has one, is unlinked: its map slot leaves the index and goes to
-- the end of the list next.
abbrev pub retired_slot : MapView → List ℕ → Option ℕ → MapView
retired_slot v key None = v
retired_slot v key (Some i) =
    record v { index = remove v.index key; next = v.next ++ i ∷ [] }

abbrev pub retired_key : MapView → List ℕ → MapView
retired_key v key = retired_slot v key (get v.index key)

-- the result of a delete from a hash map, by the map slot that was found
abbrev pub delete_result : Option ℕ → Result (Unit {0}) Errno
delete_result None = Err NoEntry
delete_result (Some i) = Ok tt

-- A delete: its result, and the view after it. From an array nothing is deleted.
abbrev pub deleted_from : MapKind → MapView → List ℕ → Result (Unit {0}) Errno × MapView
deleted_from Hash v key = (delete_result (get v.index key), retired_key v key)
deleted_from Array v key = (Err InvalidArgument, v)

abbrev pub deleted : MapView → List ℕ → Result (Unit {0}) Errno × MapView
deleted v key = deleted_from v.shape.kind v key

-- A store to the value in a map slot.
abbrev pub written : MapView → ℕ → List ℕ → MapView
written v i value = record {
  shape = v.shape;
  slots = slice_set v.slots i (record {
    key = key_in (slice_get v.slots i);
    value = value;
    uses = uses_at v.slots i;
  });
  free = v.free;
  index = v.index;
  next = v.next;
  waiting = v.waiting;
  ready = v.ready;
  worn = v.worn;
}

-- A new element takes the map slot that has been free longest, and the index has it for the key.
abbrev pub filled : MapView → ℕ → List ℕ → List ℕ → List ℕ → MapView
filled v i rest key value = record {
  shape = v.shape;
  slots = slice_set v.slots i (record { key = key; value = value; uses = uses_at v.slots i + 1 });
  free = rest;
  index = insert v.index key i;
  next = v.next;
  waiting = v.waiting;
  ready = v.ready;
  worn = v.worn;
}

abbrev pub filled_from : List ℕ → MapView → List ℕ → List ℕ → MapView
filled_from [] v key value = v
filled_from (i ∷ rest) v key value = filled v i rest key value

-- the value in the map slot that was found, if any, is another
abbrev pub overwritten_slot : MapView → Option ℕ → List ℕ → MapView
overwritten_slot v None value = v
overwritten_slot v (Some i) value = written v i value

-- What an update writes: in a hash map the element that the key had is unlinked and a new one is
-- linked; in an array the element of the index gets the value in place.
abbrev pub written_by : MapKind → MapView → List ℕ → List ℕ → MapView
written_by Hash v key value = filled_from v.free (retired_key v key) key value
written_by Array v key value = overwritten_slot v (get v.index key) value

-- An update: the first test that fails, or what is written.
abbrev pub shown_error : MapView → List ℕ → ℕ → Option Errno
shown_error v key flags =
    update_error flags (is_some (get v.index key)) (len v.index) (map_state_of v)

abbrev pub updated_by : Option Errno → MapView → List ℕ → List ℕ → Result (Unit {0}) Errno × MapView
updated_by (Some e) v key value = (Err e, v)
updated_by None v key value = (Ok tt, written_by v.shape.kind v key value)

abbrev pub updated : MapView → List ℕ → List ℕ → ℕ → Result (Unit {0}) Errno × MapView
updated v key value flags = updated_by (shown_error v key flags) v key value

-- A grace period ends: the map slots that waited are ready, and those retired meanwhile wait.
abbrev pub turned_view : MapView → MapView
turned_view v = with_lists (turned (lists_of v)) v

-- The first ready map slot is given back: it is the last of the free ones, or it is worn out.
abbrev pub slot_given_back : Given → ℕ → MapView → MapView
slot_given_back Free i v =
    record v { free = v.free ++ i ∷ []; ready = drop 1 v.ready }
slot_given_back Worn i v =
    record v { ready = drop 1 v.ready; worn = v.worn + 1 }

abbrev pub given_at : MapView → ℕ → Given
given_at v i = given_of (uses_at v.slots i) (map_state_of v)

abbrev pub reaped_view : MapView → ℕ → MapView
reaped_view v i = slot_given_back (given_at v i) i v
