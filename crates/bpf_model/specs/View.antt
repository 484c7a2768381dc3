-- What a world keeps, as plain lists and maps: nothing here says how an index or a list is laid
-- out.
use Rattle.std.specs.Prelude.{◌≡◌, ℕ, zero, suc, List, [], Bool, false, Option, Some, None, map}
use Rattle.std.specs.Prelude.{replicate, slice_get}
use Rattle.std.specs.List.{range_with_len}
use Rattle.std.specs.Ordering.{nat_cmp}
use Rattle.std.specs.Cmp.Lexicographic.{slice_cmp}
use Rattle.std.specs.FinMap.{FinMap, empty, insert}
use Rattle.bpf_model.specs.declared.limits.MapKind.{MapKind}
use Rattle.bpf_model.specs.declared.limits.MapKind.TheVariants.{Hash, Array}
use Rattle.bpf_model.specs.declared.limits.MapShape.{MapShape}
use Rattle.bpf_model.specs.declared.limits.TheConstants.{MAX_RUNS}
use Rattle.bpf_model.specs.MapState.{MapState, slots_of_shape, index_key}
use Rattle.bpf_model.specs.Machine.{Loaded}

-- what stands in a map slot: key and value bytes, and how often the map slot was used
pub record SlotView : Type 0 where
  pub key : List ℕ
  pub value : List ℕ
  pub uses : ℕ

-- the key and the value in a map slot; none where there is no such slot
abbrev pub key_in : Option SlotView → List ℕ
key_in None = []
key_in (Some s) = s.key

abbrev pub value_in : Option SlotView → List ℕ
value_in None = []
value_in (Some s) = s.value

-- how often a map slot was used; 0 where there is no such slot
abbrev pub uses_in : Option SlotView → ℕ
uses_in None = 0
uses_in (Some s) = s.uses

abbrev pub uses_at : List SlotView → ℕ → ℕ
uses_at slots i = uses_in (slice_get slots i)

-- numbers of map slots by their keys, in byte order
abbrev pub KeyMap : Type 0
KeyMap = FinMap (slice_cmp nat_cmp) ℕ

-- A map: its map slots, the free ones in the order in which they will be taken, the map slot of
-- each key in byte order, and the map slots of its unlinked elements in three lists.
pub record MapView : Type 0 where
  pub shape : MapShape
  pub slots : List SlotView
  pub free : List ℕ
  pub index : KeyMap
  pub next : List ℕ
  pub waiting : List ℕ
  pub ready : List ℕ
  pub worn : ℕ

-- What the view shows of the map's state: the bag is the use counts of the free map slots.
abbrev pub map_state_of : MapView → MapState
map_state_of v = record { shape = v.shape; bag = map (uses_at v.slots) v.free; worn = v.worn }

-- a map slot that was never used
abbrev pub unused_slot : SlotView
unused_slot = record { key = []; value = []; uses = 0 }

-- the map slots of the indices below n, each under its key
abbrev pub index_below : ℕ → KeyMap
index_below zero = empty
index_below (suc n) = insert (index_below n) (index_key n) n

-- a map slot of an array: that of its index, with a value of zeros
abbrev pub array_slot : MapShape → ℕ → SlotView
array_slot shape i =
    record { key = index_key i; value = replicate shape.value_len 0; uses = 1 }

-- A new map. All map slots of a hash map are free and are taken in their order, and it has nothing
-- under any key; an array has a map slot for each index, and none is free.
abbrev pub new_view_of : MapKind → MapShape → MapView
new_view_of Hash shape = record {
  shape = shape;
  slots = replicate (slots_of_shape shape) unused_slot;
  free = range_with_len 0 (slots_of_shape shape);
  index = empty;
  next = [];
  waiting = [];
  ready = [];
  worn = 0;
}
new_view_of Array shape = record {
  shape = shape;
  slots = map (array_slot shape) (range_with_len 0 shape.entries);
  free = [];
  index = index_below shape.entries;
  next = [];
  waiting = [];
  ready = [];
  worn = 0;
}

abbrev pub new_map_view : MapShape → MapView
new_map_view shape = new_view_of shape.kind shape

-- A run: the number of its program, its context, `REGISTERS` untyped words, the bytes of its frame,
-- the slot where its next instruction begins, how many of its locks are open, how many of its steps
-- have led further on, and its exit value.
pub record RunView : Type 0 where
  pub program : ℕ
  pub context : List ℕ
  pub registers : List ℕ
  pub frame : List ℕ
  pub place : ℕ
  pub depth : ℕ
  pub moved : ℕ
  pub exit : Option ℕ

-- A world: the names of its maps and the maps, by number, its runs by run slot, for each run slot
-- whether its run is inside a section and whether that section is awaited, its programs, and how
-- many elements it has reclaimed. No event looks at a name.
pub record WorldView : Type 0 where
  pub names : List (List ℕ)
  pub maps : List MapView
  pub runs : List (Option RunView)
  pub opened : List Bool
  pub awaited : List Bool
  pub programs : List Loaded
  pub given : ℕ

-- These maps, of these names, and programs before any event: all run slots are free, and no section
-- is open or awaited.
abbrev pub unused_world : List (List ℕ) → List MapView → List Loaded → WorldView
unused_world names maps programs = record {
  names = names;
  maps = maps;
  runs = replicate MAX_RUNS None;
  opened = replicate MAX_RUNS false;
  awaited = replicate MAX_RUNS false;
  programs = programs;
  given = 0;
}

-- new maps of these names and shapes, and no run
abbrev pub start_view : List (List ℕ) → List MapShape → List Loaded → WorldView
start_view names shapes programs = unused_world names (map new_map_view shapes) programs

-- the shape of a map, as a world shows it
abbrev pub shape_of_view : MapView → MapShape
shape_of_view v = v.shape

abbrev pub shapes_of_maps : List MapView → List MapShape
shapes_of_maps maps = map shape_of_view maps

-- nothing has happened to these maps: each is a new one of its shape
abbrev pub AreNewMaps : List MapView → Type 0
AreNewMaps maps = maps ≡ map new_map_view (shapes_of_maps maps)

-- The shapes of a world's maps.
abbrev pub shapes_of : WorldView → List MapShape
shapes_of w = shapes_of_maps w.maps
