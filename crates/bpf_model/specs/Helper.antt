-- Lookup, update and delete (bpf(2); Linux BPF documentation, "BPF_MAP_TYPE_HASH" and
-- "BPF_MAP_TYPE_ARRAY"). Defined once, for the helpers that a run calls and for the events of the
-- control plane.
use Rattle.std.specs.Prelude.{◌≡◌, ℕ, ◌==◌, ◌&&◌, Bool, not, nat_lt, nat_le, List, [], ◌∷◌}
use Rattle.std.specs.Prelude.{◌++◌, length, Option, Some, None, is_some, Result, Ok, Err, slice_get}
use Rattle.std.specs.Prelude.{slice_set, if◌then◌else◌}
use Rattle.bpf_model.specs.declared.call.Errno.{Errno}
use Rattle.bpf_model.specs.declared.call.Errno.TheVariants.{NoEntry, TooBig, NoMemory, Exists}
use Rattle.bpf_model.specs.declared.call.Errno.TheVariants.{InvalidArgument}
use Rattle.bpf_model.specs.declared.limits.MapKind.{MapKind}
use Rattle.bpf_model.specs.declared.limits.MapKind.TheVariants.{Hash, Array}
use Rattle.bpf_model.specs.Section.{Section}
use Rattle.bpf_model.specs.Element.{IsLinkedAt, IsAbsent, linked_count, newborn, overwritten}
use Rattle.bpf_model.specs.Element.{unlinked}
use Rattle.bpf_model.specs.MapState.{MapState, Store, TakesOut, with_bag, with_elements}

-- A lookup finds the linked element of the key, or nothing.
abbrev pub LooksUp : Store → ℕ → List ℕ → Option ℕ → Type 0
LooksUp s map key (Some n) = IsLinkedAt s.elements map key n
LooksUp s map key None = IsAbsent s.elements map key

-- The first test of an update that fails: flags that there are not (above BPF_EXIST, 2). Then, of a
-- hash map: a key that is there, with BPF_NOEXIST (1); one that isn't there, with BPF_EXIST (2); a
-- new key where the map has as many linked elements as it may; no free map slot. Of an array: an
-- index past the end, under which there is nothing; one that is there, with BPF_NOEXIST.
abbrev pub hash_error : ℕ → Bool → ℕ → MapState → Option Errno
hash_error flags present linked m =
    if nat_lt 2 flags then Some InvalidArgument
    else if (flags == 1) && present then Some Exists
    else if (flags == 2) && not present then Some NoEntry
    else if not present && nat_le m.shape.entries linked then Some TooBig
    else if length m.bag == 0 then Some NoMemory
    else None

abbrev pub array_error : ℕ → Bool → Option Errno
array_error flags present =
    if nat_lt 2 flags then Some InvalidArgument
    else if not present then Some TooBig
    else if flags == 1 then Some Exists
    else None

abbrev pub error_of_kind : MapKind → ℕ → Bool → ℕ → MapState → Option Errno
error_of_kind Hash flags present linked m = hash_error flags present linked m
error_of_kind Array flags present linked m = array_error flags present

abbrev pub update_error : ℕ → Bool → ℕ → MapState → Option Errno
update_error flags present linked m = error_of_kind m.shape.kind flags present linked m

-- In a hash map an element is born in any of the free map slots and linked, and the element that
-- the key had is unlinked: it keeps its value.
pub record Replaces (s : Store) (opened : List Section) (map : ℕ) (m : MapState)
    (key value : List ℕ) (found : Option ℕ) (new : Store) : Type 0 where
  pub count : ℕ
  pub bag : List ℕ
  pub taken : TakesOut m.bag count bag
  pub new_is : new ≡ record {
    elements = unlinked opened s.elements found ++ newborn map key value count ∷ [];
    maps = slice_set s.maps map (with_bag bag m);
  }

-- In an array the element of the index gets the value in place: whoever has a reference to it sees
-- that.
abbrev pub Writes : MapKind → Store → List Section → ℕ → MapState → List ℕ → List ℕ → Option ℕ →
    Store → Type 0
Writes Hash s opened map m key value found new = Replaces s opened map m key value found new
Writes Array s opened map m key value found new =
    new ≡ with_elements (overwritten value s.elements found) s

-- what is done when this test was the first to fail, or none failed
abbrev pub Settles : Option Errno → Result (Unit {0}) Errno → Store → Store → Type 0 → Type 0
Settles (Some e) ret s new Done = (ret ≡ Err e) × (new ≡ s)
Settles None ret s new Done = (ret ≡ Ok tt) × Done

pub record Updates (s : Store) (opened : List Section) (map : ℕ) (key value : List ℕ) (flags : ℕ)
    (ret : Result (Unit {0}) Errno) (new : Store) : Type 0 where
  pub state : MapState
  pub there : slice_get s.maps map ≡ Some state
  pub found : Option ℕ
  pub lookup : LooksUp s map key found
  pub settled : Settles (update_error flags (is_some found) (linked_count map s.elements) state)
      ret s new (Writes state.shape.kind s opened map state key value found new)

-- A delete of an absent key of a hash map fails; else the key's element is unlinked. From an array
-- nothing is deleted.
abbrev pub Removes : Option ℕ → List Section → Result (Unit {0}) Errno → Store → Store → Type 0
Removes None opened ret s new = (ret ≡ Err NoEntry) × (new ≡ s)
Removes (Some n) opened ret s new =
    (ret ≡ Ok tt) × (new ≡ with_elements (unlinked opened s.elements (Some n)) s)

abbrev pub RemovesFrom : MapKind → Option ℕ → List Section → Result (Unit {0}) Errno → Store →
    Store → Type 0
RemovesFrom Hash found opened ret s new = Removes found opened ret s new
RemovesFrom Array found opened ret s new = (ret ≡ Err InvalidArgument) × (new ≡ s)

pub record Deletes (s : Store) (opened : List Section) (map : ℕ) (key : List ℕ)
    (ret : Result (Unit {0}) Errno) (new : Store) : Type 0 where
  pub state : MapState
  pub there : slice_get s.maps map ≡ Some state
  pub found : Option ℕ
  pub lookup : LooksUp s map key found
  pub removed : RemovesFrom state.shape.kind found opened ret s new
