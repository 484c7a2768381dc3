-- The state of the maps (Linux BPF documentation, "BPF_MAP_TYPE_HASH" and "BPF_MAP_TYPE_ARRAY"; map
-- slots and their reuse are this runtime's own).
use Rattle.std.specs.Prelude.{◌≡◌, ℕ, suc, ◌+◌, ◌==◌, List, [], ◌∷◌, ◌++◌, Option, Some}
use Rattle.std.specs.Prelude.{None, slice_get, replicate, map, if◌then◌else◌}
use Rattle.std.specs.List.{range_with_len}
use Rattle.std.specs.Int.{w32, to_le_bytes}
use Rattle.bpf_model.specs.declared.limits.MapKind.{MapKind}
use Rattle.bpf_model.specs.declared.limits.MapKind.TheVariants.{Hash, Array}
use Rattle.bpf_model.specs.declared.limits.MapShape.{MapShape}
use Rattle.bpf_model.specs.declared.event.Given.{Given}
use Rattle.bpf_model.specs.declared.event.Given.TheVariants.{Free, Worn}
use Rattle.bpf_model.specs.Element.{Element, newborn}

-- how many map slots a map has
abbrev pub slots_of_shape : MapShape → ℕ
slots_of_shape shape = shape.entries + shape.spare

-- A map: its shape, for each free map slot how often it was used (a bag: its order says nothing
-- here), and how many map slots are worn out. What it has under a key stands in the elements.
pub record MapState : Type 0 where
  pub shape : MapShape
  pub bag : List ℕ
  pub worn : ℕ

-- All maps, and the elements of all of them.
pub record Store : Type 0 where
  pub elements : List Element
  pub maps : List MapState

-- A new map. Of a hash map no map slot was ever used; those of an array are all taken.
abbrev pub new_bag : MapKind → MapShape → List ℕ
new_bag Hash shape = replicate (slots_of_shape shape) 0
new_bag Array shape = []

abbrev pub new_map : MapShape → MapState
new_map shape = record { shape = shape; bag = new_bag shape.kind shape; worn = 0 }

-- The key of an array's element is its index, the lowest byte first; its value is zero at first.
abbrev pub index_key : ℕ → List ℕ
index_key i = to_le_bytes w32 i

abbrev pub array_element : ℕ → MapShape → ℕ → Element
array_element map shape i = newborn map (index_key i) (replicate shape.value_len 0) 0

-- The elements of a new map: none of a hash map, those of all indices of an array. Then those of
-- new maps of these shapes, the first of which is map k.
abbrev pub new_elements : MapKind → ℕ → MapShape → List Element
new_elements Hash k shape = []
new_elements Array k shape = map (array_element k shape) (range_with_len 0 shape.entries)

abbrev pub all_new_elements : ℕ → List MapShape → List Element
all_new_elements k [] = []
all_new_elements k (shape ∷ shapes) =
    new_elements shape.kind k shape ++ all_new_elements (suc k) shapes

abbrev pub with_bag : List ℕ → MapState → MapState
with_bag bag m = record m { bag = bag }

abbrev pub with_elements : List Element → Store → Store
with_elements es s = record s { elements = es }

-- the shape of a map, where there is one
abbrev pub shape_in : Option MapState → Option MapShape
shape_in None = None
shape_in (Some m) = Some m.shape

abbrev pub shape_of : Store → ℕ → Option MapShape
shape_of s map = shape_in (slice_get s.maps map)

-- Any count may be taken out of a bag: which map slot serves is left open.
pub record TakesOut (old : List ℕ) (count : ℕ) (new : List ℕ) : Type 0 where
  pub before : List ℕ
  pub after : List ℕ
  pub old_is : old ≡ before ++ count ∷ after
  pub new_is : new ≡ before ++ after

-- Whether a map slot that was used so often may be used again, and the map after the slot was given
-- back.
abbrev pub given_of : ℕ → MapState → Given
given_of uses m = if uses == m.shape.reuse_limit then Worn else Free

abbrev pub with_given : Given → ℕ → MapState → MapState
with_given Free uses m = record m { bag = m.bag ++ uses ∷ [] }
with_given Worn uses m = record m { worn = m.worn + 1 }

abbrev pub returned : ℕ → MapState → MapState
returned uses m = with_given (given_of uses m) uses m
