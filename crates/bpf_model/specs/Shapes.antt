-- The shapes that a map may have (this runtime's own limits; of arrays, Linux BPF documentation,
-- "BPF_MAP_TYPE_ARRAY").
use Rattle.std.specs.Prelude.{◌≡◌, ℕ, ◌*◌, ◌≤◌, List, Some, slice_get}
use Rattle.bpf_model.specs.declared.limits.MapKind.TheVariants.{Array}
use Rattle.bpf_model.specs.declared.limits.MapShape.{MapShape}
use Rattle.bpf_model.specs.declared.limits.TheConstants.{KEY_BYTES, VALUE_BYTES, MAX_ENTRIES}
use Rattle.bpf_model.specs.declared.limits.TheConstants.{MAX_SPARE, MAX_REUSE, INDEX_BYTES}
use Rattle.bpf_model.specs.MapState.{slots_of_shape}

-- An array's keys are its indices; it has no further map slots, and uses each once.
pub record IsArrayShape (shape : MapShape) : Type 0 where
  pub key : shape.key_len ≡ INDEX_BYTES
  pub spare : shape.spare ≡ 0
  pub reuse : shape.reuse_limit ≡ 1

-- The shapes that a map may have.
pub record IsShape (shape : MapShape) : Type 0 where
  pub key : (1 ≤ shape.key_len) × (shape.key_len ≤ KEY_BYTES)
  pub value : (1 ≤ shape.value_len) × (shape.value_len ≤ VALUE_BYTES)
  pub entries : (1 ≤ shape.entries) × (shape.entries ≤ MAX_ENTRIES)
  pub spare : shape.spare ≤ MAX_SPARE
  pub reuse : (1 ≤ shape.reuse_limit) × (shape.reuse_limit ≤ MAX_REUSE)
  pub array : shape.kind ≡ Array → IsArrayShape shape

abbrev pub AreShapes : List MapShape → Type 0
AreShapes shapes = (k : ℕ) (shape : MapShape) → slice_get shapes k ≡ Some shape → IsShape shape

-- How many elements are born in a map at most: each of its map slots is used `reuse_limit` times at
-- most.
abbrev pub most_births : MapShape → ℕ
most_births shape = slots_of_shape shape * shape.reuse_limit
