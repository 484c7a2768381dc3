-- What an update leaves of the parts of a map.
use Rattle.std.specs.Prelude.{◌≡◌, ℕ, List, ◌∷◌, Option, Some, None, Result, Ok, Err}
use Rattle.std.specs.FinMap.{insert}
use Rattle.bpf_model.specs.declared.call.Errno.{Errno}
use Rattle.element_store.specs.State.{taken}
use Rattle.map_kinds.specs.Parted.{PartsView, without_key}

-- the parts once a free slot is taken for a key and a value, and rest is free
abbrev pub with_taken : PartsView → ℕ → List ℕ → List ℕ → List ℕ → PartsView
with_taken p i rest key value =
    record { index = p.index; lists = p.lists; arena = taken p.arena i rest key value }

-- the parts once the slot i is linked, in the place of the slot that was found
abbrev pub replaced : PartsView → List ℕ → Option ℕ → ℕ → List (Option ℕ) → PartsView
replaced p key found i links = record {
  index = insert (without_key p key found).index key i;
  lists = (without_key p key found).lists;
  arena = record p.arena { links = links };
}

-- the first free slot has the key and the value, in the place of the slot that was found
pub record IsPut (old new : PartsView) (key value : List ℕ) (found : Option ℕ) : Type 0 where
  pub slot : ℕ
  pub rest : List ℕ
  pub first : old.arena.free ≡ slot ∷ rest
  pub new_is : new ≡ replaced (with_taken old slot rest key value) key found slot new.arena.links

-- the key's slot, if there was one, was unlinked, and joined the end of next
abbrev pub unlinked_of : PartsView → List ℕ → Option ℕ → List (Option ℕ) → PartsView
unlinked_of p key found links = record {
  index = (without_key p key found).index;
  lists = (without_key p key found).lists;
  arena = record p.arena { links = links };
}

abbrev pub error_of : {A : Type 0} → Result A Errno → Option Errno
error_of (Ok x) = None
error_of (Err e) = Some e
