-- What the instructions that concern maps do to an abstract state.
use Rattle.std.specs.Prelude.{◌≡◌, ℕ, ◌+◌, ◌-◌, ◌==◌, ◌<◌, ◌≤◌, nat_le, List, slice_get, Bool}
use Rattle.std.specs.Prelude.{true, false, Option, Some, None, ℤ, pos, ◌+ℤ◌, if◌then◌else◌}
use Rattle.bpf_model.specs.declared.limits.TheConstants.{FRAME_BYTES}
use Rattle.bpf_model.specs.declared.limits.MapKind.{MapKind}
use Rattle.bpf_model.specs.declared.limits.MapKind.TheVariants.{Hash, Array}
use Rattle.bpf_model.specs.declared.limits.MapShape.{MapShape}
use Rattle.bpf_model.specs.declared.insn.Operand.{Operand}
use Rattle.bpf_model.specs.declared.insn.Operand.TheVariants.{Register, Immediate}
use Rattle.bpf_model.specs.Access.{region_offset}
use Rattle.bpf_model.specs.Step.{put}
use Rattle.bpf_model.specs.Frame.{is_within}
use Rattle.scalar_domain.specs.Scalar.{Holds}
use Rattle.scalar_domain.specs.declared.scalar.Scalar.{Scalar}
use Rattle.plan_laws.specs.Kinds.{Kind, Blank, Mixed, Ended, Num, CtxAt, FrameAt, MapAt, ValueAt}
use Rattle.plan_laws.specs.Kinds.{MaybeNull, CellKind, BlankCell, MixedCell, EndedCell, ByteCell}
use Rattle.plan_laws.specs.Kinds.{PartCell, AbsState}
use Rattle.plan_laws.specs.Describes.{HasOffset}

-- a register is set
abbrev pub with_kind : ℕ → Kind → AbsState → AbsState
with_kind r kind a = record a { regs = put r kind a.regs }

-- the registers after a call: r0 has the result's kind, and r1 to r5 may be unwritten
abbrev pub returned_kind : Kind → (ℕ → Kind) → ℕ → Kind
returned_kind kind regs r = if r == 0 then kind else if nat_le r 5 then Blank else regs r

abbrev pub after_call : Kind → AbsState → AbsState
after_call kind a = record a { regs = returned_kind kind a.regs }

-- a map of this kind is an array, and that of this index in a program's list
abbrev pub is_array : MapKind → Bool
is_array Hash = false
is_array Array = true

abbrev pub has_array_shape : Option MapShape → Bool
has_array_shape None = false
has_array_shape (Some shape) = is_array shape.kind

abbrev pub is_array_in : List MapShape → ℕ → Bool
is_array_in shapes map = has_array_shape (slice_get shapes map)

-- The end of a section ends all that may be an element of a hash map. Elements of arrays need none.
abbrev pub ended_kind : List MapShape → Kind → Kind
ended_kind shapes (ValueAt map s) = if is_array_in shapes map then ValueAt map s else Ended
ended_kind shapes (MaybeNull map id) = if is_array_in shapes map then MaybeNull map id else Ended
ended_kind shapes kind = kind

abbrev pub ended_cell : List MapShape → CellKind → CellKind
ended_cell shapes (PartCell (ValueAt map s)) =
    if is_array_in shapes map then PartCell (ValueAt map s) else EndedCell
ended_cell shapes (PartCell (MaybeNull map id)) =
    if is_array_in shapes map then PartCell (MaybeNull map id) else EndedCell
ended_cell shapes cell = cell

-- An unlock at this depth leaves what is known, or ends the section where it is the outermost.
abbrev pub left_kind : List MapShape → ℕ → Kind → Kind
left_kind shapes depth kind = if depth == 1 then ended_kind shapes kind else kind

abbrev pub left_cell : List MapShape → ℕ → CellKind → CellKind
left_cell shapes depth cell = if depth == 1 then ended_cell shapes cell else cell

abbrev pub after_lock : AbsState → AbsState
after_lock a = record {
  regs = returned_kind Blank a.regs;
  cells = a.cells;
  depth = a.depth + 1;
}

abbrev pub after_unlock : List MapShape → AbsState → AbsState
after_unlock shapes a = record {
  regs = returned_kind Blank (λ r. left_kind shapes a.depth (a.regs r));
  cells = λ k. left_cell shapes a.depth (a.cells k);
  depth = a.depth - 1;
}

-- the kind, or that of which a cell is part, has not this identity
abbrev pub IsOther : ℕ → Kind → Type 0
IsOther id (MaybeNull map i) = i ≡ id → ⊥
IsOther id kind = Unit {0}

abbrev pub IsOtherCell : ℕ → CellKind → Type 0
IsOtherCell id (PartCell kind) = IsOther id kind
IsOtherCell id cell = Unit {0}

-- nothing that is known has this identity
pub record IsFresh (id : ℕ) (a : AbsState) : Type 0 where
  pub regs : (r : ℕ) → IsOther id (a.regs r)
  pub cells : (k : ℕ) → IsOtherCell id (a.cells k)

-- A test told that what has the identity is null, or that it isn't. The scalars are those of the
-- number 0 and of the offset 0.
abbrev pub null_kind : ℕ → Scalar → Kind → Kind
null_kind id zero (MaybeNull map i) = if i == id then Num zero else MaybeNull map i
null_kind id zero kind = kind

abbrev pub null_cell : ℕ → CellKind → CellKind
null_cell id (PartCell (MaybeNull map i)) = if i == id then ByteCell else PartCell (MaybeNull map i)
null_cell id cell = cell

abbrev pub there_kind : ℕ → Scalar → Kind → Kind
there_kind id origin (MaybeNull map i) = if i == id then ValueAt map origin else MaybeNull map i
there_kind id origin kind = kind

abbrev pub there_cell : ℕ → Scalar → CellKind → CellKind
there_cell id origin (PartCell kind) = PartCell (there_kind id origin kind)
there_cell id origin cell = cell

abbrev pub when_null : ℕ → Scalar → AbsState → AbsState
when_null id zero a = record {
  regs = λ r. null_kind id zero (a.regs r);
  cells = λ k. null_cell id (a.cells k);
  depth = a.depth;
}

abbrev pub when_there : ℕ → Scalar → AbsState → AbsState
when_there id origin a = record {
  regs = λ r. there_kind id origin (a.regs r);
  cells = λ k. there_cell id origin (a.cells k);
  depth = a.depth;
}

-- a store to the frame: bytes, or a value of a kind at a group
abbrev pub with_cells : ℕ → ℕ → CellKind → AbsState → AbsState
with_cells at width cell a = record a {
  cells = λ k. if is_within at width k then cell else a.cells k;
}

-- each access of the width, at one of the offsets, lies in a region of that length
abbrev pub IsAlwaysInside : Scalar → ℕ → ℤ → ℕ → Type 0
IsAlwaysInside s width offset len =
    (o : ℤ) → HasOffset s o → (at : ℕ) × (region_offset len width (o +ℤ offset) ≡ Some at)

-- Each value of the first kind is one of the second, where identities are renamed. Each side of a
-- join stands so to the joined state, with a renaming of its own.
abbrev pub IsWiderKind : (ℕ → ℕ) → Kind → Kind → Type 0
IsWiderKind left (MaybeNull map i) (MaybeNull map' j) = (map' ≡ map) × (left j ≡ i)
IsWiderKind left (Num s) (Num t) = (n : ℕ) → Holds s n → Holds t n
IsWiderKind left (ValueAt map s) (ValueAt map' t) =
    (map' ≡ map) × ((o : ℤ) → HasOffset s o → HasOffset t o)
IsWiderKind left (CtxAt s) (CtxAt t) = (o : ℤ) → HasOffset s o → HasOffset t o
IsWiderKind left (FrameAt o) (FrameAt p) = o ≡ p
IsWiderKind left (MapAt m) (MapAt n) = m ≡ n
IsWiderKind left kind Blank = Unit {0}
IsWiderKind left kind Mixed = Unit {0}
IsWiderKind left kind Ended = Unit {0}
IsWiderKind left kind other = ⊥

abbrev pub IsWiderCell : (ℕ → ℕ) → CellKind → CellKind → Type 0
IsWiderCell left ByteCell ByteCell = Unit {0}
IsWiderCell left (PartCell kind) (PartCell other) = IsWiderKind left kind other
IsWiderCell left cell BlankCell = Unit {0}
IsWiderCell left cell MixedCell = Unit {0}
IsWiderCell left cell EndedCell = Unit {0}
IsWiderCell left cell other = ⊥

pub record IsWider (left : ℕ → ℕ) (a b : AbsState) : Type 0 where
  pub regs : (r : ℕ) → IsWiderKind left (a.regs r) (b.regs r)
  pub cells : (k : ℕ) → IsWiderCell left (a.cells k) (b.cells k)
  pub depth : b.depth ≡ a.depth

-- What a call asks for: a map in r1, so many bytes of the frame by a register.
pub record HasMap (shapes : List MapShape) (a : AbsState) (map : ℕ) (shape : MapShape)
    : Type 0 where
  pub map_is : a.regs 1 ≡ MapAt map
  pub shape_is : slice_get shapes map ≡ Some shape

pub record HasBytes (a : AbsState) (r len : ℕ) : Type 0 where
  pub at : ℕ
  pub frame : a.regs r ≡ FrameAt (pos at)
  pub inside : at + len ≤ FRAME_BYTES
  pub bytes : (k : ℕ) → at ≤ k → k < at + len → a.cells k ≡ ByteCell

-- a kind of which nothing is unwritten: a copy of it may be stored
abbrev pub IsWritten : Kind → Type 0
IsWritten Blank = ⊥
IsWritten Mixed = ⊥
IsWritten Ended = ⊥
IsWritten kind = Unit {0}

-- a reference, or null
abbrev pub IsPointer : Kind → Type 0
IsPointer (Num s) = ⊥
IsPointer kind = IsWritten kind

-- a register that is known to be a number
abbrev pub HasNumber : AbsState → ℕ → Type 0
HasNumber a r = (s : Scalar) × (a.regs r ≡ Num s)

-- an operand that is a number in each described state
abbrev pub IsNumberOperand : AbsState → Operand → Type 0
IsNumberOperand a (Register r) = HasNumber a r
IsNumberOperand a (Immediate imm) = Unit {0}
