-- The elements of all maps, by birth number. The list only grows: an element is born at its end and
-- is never taken out or born again, so that a reference to it can never come to mean another
-- element.
use Rattle.std.specs.Prelude.{◌≡◌, ℕ, ◌+◌, ◌==◌, ◌&&◌, Bool, true, false, List, Option, Some, None}
use Rattle.std.specs.Prelude.{slice_get, slice_set, count_by, length, ℤ, if◌then◌else◌}
use Rattle.bpf_model.specs.Section.{Section}
use Rattle.bpf_model.specs.Value.{◌>>=◌}
use Rattle.bpf_model.specs.Access.{region_offset, number_at, with_bytes}

-- An element is linked (found under its key); or unlinked, with the sections that were open at that
-- moment; or reclaimed.
pub data Life : Type 0 where
  Linked : Life
  Unlinked : (opened : List Section) → Life
  Reclaimed : Life

-- An element: its map's number, the bytes of its key and of its value, which use of its map slot
-- it is, counted from 1, and its life.
pub record Element : Type 0 where
  pub map : ℕ
  pub key : List ℕ
  pub value : List ℕ
  pub uses : ℕ
  pub life : Life

-- a linked element, in a map slot that was used so often before
abbrev pub newborn : ℕ → List ℕ → List ℕ → ℕ → Element
newborn map key value count =
    record { map = map; key = key; value = value; uses = count + 1; life = Linked }

abbrev pub is_linked : Life → Bool
is_linked Linked = true
is_linked life = false

abbrev pub is_reclaimed : Life → Bool
is_reclaimed Reclaimed = true
is_reclaimed life = false

abbrev pub with_life : Life → Element → Element
with_life life e = record e { life = life }

abbrev pub with_value : List ℕ → Element → Element
with_value value e = record e { value = value }

abbrev pub HasLife : List Element → ℕ → Life → Type 0
HasLife es n life = (e : Element) × (slice_get es n ≡ Some e) × (e.life ≡ life)

-- Element n is what the map has under the key: a map is a finite map from keys to the births of
-- linked elements.
pub record IsLinkedAt (es : List Element) (map : ℕ) (key : List ℕ) (n : ℕ) : Type 0 where
  pub element : Element
  pub born : slice_get es n ≡ Some element
  pub linked : element.life ≡ Linked
  pub in_map : element.map ≡ map
  pub under : element.key ≡ key

-- the map has nothing under the key
abbrev pub IsAbsent : List Element → ℕ → List ℕ → Type 0
IsAbsent es map key = (n : ℕ) → IsLinkedAt es map key n → ⊥

-- how many elements of the map are linked
abbrev pub linked_count : ℕ → List Element → ℕ
linked_count map es = count_by (λ e. is_linked e.life && (e.map == map)) es

-- the elements after a change of one of them
abbrev pub set_to : (Element → Element) → List Element → ℕ → Option Element → List Element
set_to f es n None = es
set_to f es n (Some e) = slice_set es n (f e)

abbrev pub changed : (Element → Element) → List Element → ℕ → List Element
changed f es n = set_to f es n (slice_get es n)

-- the elements after the one that was found, if any, gets another value
abbrev pub overwritten : List ℕ → List Element → Option ℕ → List Element
overwritten value es None = es
overwritten value es (Some n) = changed (with_value value) es n

-- the elements after the one that was found, if any, is unlinked: it keeps the sections that are
-- open
abbrev pub unlinked : List Section → List Element → Option ℕ → List Element
unlinked opened es None = es
unlinked opened es (Some n) = changed (with_life (Unlinked opened)) es n

-- An element may be accessed until it is reclaimed, also after it was unlinked.
abbrev pub unless_reclaimed : Element → Option Element
unless_reclaimed e = if is_reclaimed e.life then None else Some e

abbrev pub accessible : List Element → ℕ → Option Element
accessible es n = slice_get es n >>= unless_reclaimed

-- What a load through a reference to an element finds: an aligned access, all of its bytes inside
-- the value, before the element is reclaimed.
abbrev pub loaded_from : ℕ → ℤ → Element → Option ℕ
loaded_from width offset e =
    region_offset (length e.value) width offset >>= λ at. number_at (slice_get e.value) at width

-- The elements after a store of a number to one of them. No reference is ever
-- stored in an element.
abbrev pub stored_in : List Element → ℕ → ℕ → ℤ → ℕ → Element → Option (List Element)
stored_in es n width offset v e =
    region_offset (length e.value) width offset
    >>= λ at. Some (changed (with_value (with_bytes at width v e.value)) es n)
