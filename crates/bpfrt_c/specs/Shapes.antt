-- Shapes of maps, as C writes them.
use Rattle.std.specs.Prelude.{◌≡◌, ◌<◌, ℕ, List, Option, Some, None, length, map, slice_get, if◌then◌else◌, ◌==◌}
use Rattle.bpf_model.specs.declared.limits.MapKind.{MapKind}
use Rattle.bpf_model.specs.declared.limits.MapKind.TheVariants.{Hash, Array}
use Rattle.bpf_model.specs.declared.limits.MapShape.{MapShape}
use Rattle.bpf_model.specs.declared.limits.TheConstants.{MAX_MAPS}
use Rattle.host_programs.specs.declared.fault.OpenFault.TheVariants.{TooManyMaps, BadShape}
use Rattle.bpfrt_c.specs.declared.shape.Shape.{Shape}
use Rattle.bpfrt_c.specs.declared.shape.ShapesFault.{ShapesFault}
use Rattle.bpfrt_c.specs.declared.shape.ShapesFault.TheVariants.{Fault, Memory}

-- the kind of a type's number (Linux, include/uapi/linux/bpf.h: BPF_MAP_TYPE_HASH is 1, BPF_MAP_TYPE_ARRAY 2)
abbrev pub kind_in_c : ℕ → Option MapKind
kind_in_c n = if n == 1 then Some Hash else (if n == 2 then Some Array else None)

abbrev pub shape_with : Shape → Option MapKind → Option MapShape
shape_with s None = None
shape_with s (Some kind) = Some (record {
  kind = kind;
  key_len = s.key_size;
  value_len = s.value_size;
  entries = s.max_entries;
  spare = s.spare;
  reuse_limit = s.reuse_limit;
})

-- the shape that the numbers are, where their type is one
abbrev pub shape_in_c : Shape → Option MapShape
shape_in_c s = shape_with s (kind_in_c s.kind)

-- the shapes, one after another
abbrev pub AreShapesInC : List Shape → List MapShape → Type 0
AreShapesInC written shapes = map shape_in_c written ≡ map Some shapes

-- The type of map k is none.
pub record HasNoKind (written : List Shape) (k : ℕ) : Type 0 where
  pub shape : Shape
  pub there : slice_get written k ≡ Some shape
  pub none : shape_in_c shape ≡ None

abbrev pub IsShapesFault : List Shape → ShapesFault → Type 0
IsShapesFault written (Fault TooManyMaps) = MAX_MAPS < length written
IsShapesFault written (Fault (BadShape k)) = HasNoKind written k
IsShapesFault written (Fault fault) = ⊥
IsShapesFault written Memory = Unit {0}
