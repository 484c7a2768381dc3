-- What loads and stores reach, in words of the laws.
use Rattle.std.specs.Prelude.{◌≡◌, ℕ, ◌+◌, ◌^◌, ◌<◌, ◌≤◌, ◌⊎◌, List, Some, slice_get, ℤ, ◌+ℤ◌}
use Rattle.std.specs.Prelude.{Result, IsOk}
use Rattle.bpf_model.specs.declared.limits.TheConstants.{FRAME_BYTES}
use Rattle.bpf_model.specs.declared.limits.MapShape.{MapShape}
use Rattle.bpf_model.specs.Access.{region_offset}
use Rattle.scalar_domain.specs.declared.scalar.Scalar.{Scalar}
use Rattle.plan_laws.specs.Kinds.{Kind, Num, CtxAt, FrameAt, ValueAt, ByteCell, PartCell}
use Rattle.plan_laws.specs.Kinds.{AbsState as Known}
use Rattle.plan_laws.specs.Effects.{IsAlwaysInside, IsPointer, with_cells}
use Rattle.plan_laws.specs.Planned.{AreAlike}
use Rattle.register_kinds.specs.declared.fault.InsnFault.{InsnFault}
use Rattle.register_kinds.specs.declared.state.AbsState.{AbsState}
use Rattle.register_kinds.specs.declared.kind.RegKind.TheVariants as kinds
use Rattle.register_kinds.specs.States.{kind_of, kind_in}
use Rattle.effects.specs.declared.region.Address.{Address}
use Rattle.effects.specs.declared.region.Region.{Region}
use Rattle.effects.specs.declared.region.Region.TheVariants as regions
use Rattle.effects.specs.declared.reads.Reads.{Reads}
use Rattle.effects.specs.declared.reads.Reads.TheVariants as reads
use Rattle.scalar_domain.specs.Floor.{KeepsLoadFloor}
use Rattle.effects.specs.Performs.{IsNumbers}
use Rattle.bpf_model.specs.declared.opcode.Width.{Width}

-- a reference into the region; none is into no region
abbrev pub IsBase : Region → Kind → Type 0
IsBase regions.None kind = ⊥
IsBase regions.Ctx kind = (s : Scalar) × (kind ≡ CtxAt s)
IsBase regions.Frame kind = (o : ℤ) × (kind ≡ FrameAt o)
IsBase (regions.Value map) kind = (s : Scalar) × (kind ≡ ValueAt map s)

-- each access through the register lies in the context
pub record ReachesContext (a : Known) (r width : ℕ) (offset : ℤ) (ctx_len : ℕ) : Type 0 where
  pub offsets : Scalar
  pub base : a.regs r ≡ CtxAt offsets
  pub inside : IsAlwaysInside offsets width offset ctx_len

-- each access through the register lies in the value of an element of a map of the program's list
pub record ReachesValue (a : Known) (r width : ℕ) (offset : ℤ) (shapes : List MapShape) (map : ℕ)
    : Type 0 where
  pub shape : MapShape
  pub offsets : Scalar
  pub base : a.regs r ≡ ValueAt map offsets
  pub shape_is : slice_get shapes map ≡ Some shape
  pub inside : IsAlwaysInside offsets width offset shape.value_len

-- each access through the register lies in the frame, from this byte on
pub record ReachesFrame (a : Known) (r width : ℕ) (offset : ℤ) (at : ℕ) : Type 0 where
  pub start : ℤ
  pub base : a.regs r ≡ FrameAt start
  pub inside : region_offset FRAME_BYTES width (start +ℤ offset) ≡ Some at

-- the access through the register lies in the frame, on bytes of numbers
pub record ReadsBytes (a : Known) (r width : ℕ) (offset : ℤ) : Type 0 where
  pub at : ℕ
  pub reaches : ReachesFrame a r width offset at
  pub bytes : (k : ℕ) → at ≤ k → k < at + width → a.cells k ≡ ByteCell

-- the offset 0 alone, of those that are kept 2^29 higher
pub record IsStart (s : Scalar) : Type 0 where
  pub least : s.least ≡ 2 ^ 29
  pub greatest : s.greatest ≡ 2 ^ 29

-- The register refers to the start of the value of an element of this map, and the access lies
-- inside it.
pub record ReadsValue (shapes : List MapShape) (a : AbsState) (r map width : ℕ) (offset : ℤ)
    : Type 0 where
  pub shape : MapShape
  pub shape_is : slice_get shapes map ≡ Some shape
  pub offsets : Scalar
  pub base : kind_in a.regs r ≡ kinds.Value map offsets
  pub start : IsStart offsets
  pub at : ℕ
  pub inside : region_offset shape.value_len width offset ≡ Some at

-- the access through the register is of the eight parts of a reference that was stored in the frame
pub record ReadsParts (a : Known) (r width : ℕ) (offset : ℤ) (kind : Kind) : Type 0 where
  pub at : ℕ
  pub reaches : ReachesFrame a r width offset at
  pub wide : width ≡ 8
  pub parts : (j : ℕ) → j < 8 → a.cells (at + j) ≡ PartCell kind
  pub pointer : IsPointer kind

-- A load through the address may be taken to read this: each run that is described finds it there.
abbrev pub IsReadByLoad : Reads → Known → ℕ → Address → ℕ → List MapShape → Type 0
IsReadByLoad reads.Context a width from ctx_len shapes =
    ReachesContext a from.base width from.offset ctx_len
IsReadByLoad (reads.Value map) a width from ctx_len shapes =
    ReachesValue a from.base width from.offset shapes map
IsReadByLoad reads.FrameBytes a width from ctx_len shapes = ReadsBytes a from.base width from.offset
IsReadByLoad (reads.FramePointer kind) a width from ctx_len shapes =
    ReadsParts a from.base width from.offset (kind_of kind)

-- the kind of what is read
abbrev pub read_kind : Reads → Scalar → Kind
read_kind (reads.FramePointer kind) numbers = kind_of kind
read_kind other numbers = Num numbers

-- The store is not refused, and so many bytes of the frame become bytes of a number.
pub record StoresBytes {A : Type 0} (r : Result A InsnFault) (at width : ℕ) (a b : Known)
    : Type 0 where
  pub fine : IsOk r
  pub alike : AreAlike (with_cells at width ByteCell a) b

-- What a load without sign gives is a number of so many bytes, or the reference whose parts it
-- reads.
abbrev pub LoadsKnown : Width → Kind → Type 0
LoadsKnown width k = IsNumbers (KeepsLoadFloor width) k ⊎ IsPointer k
