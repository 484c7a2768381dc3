-- What is seen of an array, and what is kept of it: the values of all indices, one behind the
-- other.
use Rattle.std.specs.Prelude.{◌≡◌, ℕ, ◌*◌, List, [], length, map}
use Rattle.std.specs.List.{range_with_len}
use Rattle.bpf_model.specs.declared.limits.MapKind.TheVariants.{Array}
use Rattle.bpf_model.specs.declared.limits.MapShape.{MapShape}
use Rattle.bpf_model.specs.Shapes.{IsShape}
use Rattle.bpf_model.specs.MapState.{index_key}
use Rattle.bpf_model.specs.View.{SlotView, MapView, index_below}
use Rattle.element_store.specs.Blocks.{block}

-- the map slot of an index
abbrev pub index_slot : MapShape → List ℕ → ℕ → SlotView
index_slot shape values i =
    record { key = index_key i; value = block shape.value_len i values; uses = 1 }

abbrev pub array_view : MapShape → List ℕ → MapView
array_view shape values = record {
  shape = shape;
  slots = map (index_slot shape values) (range_with_len 0 shape.entries);
  free = [];
  index = index_below shape.entries;
  next = [];
  waiting = [];
  ready = [];
  worn = 0;
}

-- A map may have the shape, which is an array's, and each index has a value.
pub record IsArrayMap (shape : MapShape) (values : List ℕ) : Type 0 where
  pub valid : IsShape shape
  pub array : shape.kind ≡ Array
  pub room : length values ≡ shape.entries * shape.value_len
