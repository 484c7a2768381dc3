-- What an access to an element's value reaches, finds and leaves, over the maps alone.
use Rattle.std.specs.Prelude.{ℕ, List, Option, Some, slice_get, slice_set, ℤ, pos, ◌+ℤ◌}
use Rattle.bpf_model.specs.Access.{with_bytes}
use Rattle.bpf_model.specs.View.{MapView, value_in}
use Rattle.model_laws.specs.Locations.{Location, InSlot}
use Rattle.model_laws.specs.Views.{written}
use Rattle.world_laws.specs.Locating.{number_from, value_of}
use Rattle.world_laws.specs.Reaching.{IsElementReached}

-- the location lies in a map slot
abbrev pub IsInSlot : Location → Type 0
IsInSlot (InSlot map slot o) = Unit {0}
IsInSlot l = ⊥

-- The access, at an offset from the location, reaches the value of an element.
abbrev pub ReachesElement : List MapView → ℕ → ℤ → Location → Type 0
ReachesElement maps width offset (InSlot map slot o) =
    IsElementReached maps width map slot (o +ℤ offset)
ReachesElement maps width offset l = ⊥

-- the number that a load at an offset from the location finds
abbrev pub element_number : List MapView → ℕ → ℤ → Location → ℕ
element_number maps width offset (InSlot map slot o) =
    number_from (value_of (slice_get maps map) slot) width (o +ℤ offset)
element_number maps width offset l = 0

-- The maps after a store of the low bytes of a number: the slot's element has another value, and
-- keeps its slot, key and lists.
abbrev pub maps_after_store : Option MapView → ℕ → ℕ → ℕ → ℕ → ℤ → List MapView → List MapView
maps_after_store (Some view) map slot width number (pos at) maps =
    slice_set maps map (written view slot
    (with_bytes at width number (value_in (slice_get view.slots slot))))
maps_after_store view map slot width number offset maps = maps

abbrev pub stored_element : ℕ → ℕ → ℤ → Location → List MapView → List MapView
stored_element width number offset (InSlot map slot o) maps =
    maps_after_store (slice_get maps map) map slot width number (o +ℤ offset) maps
stored_element width number offset l maps = maps
