-- Which abstract state of the laws a state in code is.
use Rattle.std.specs.Prelude.{ℕ, ◌/◌, List, slice_index_or, Bool, true, false}
use Rattle.plan_laws.specs.Kinds as model
use Rattle.register_kinds.specs.declared.kind.RegKind.{RegKind}
use Rattle.register_kinds.specs.declared.kind.RegKind.TheVariants.{Unwritten, Ended, Mixed, Num}
use Rattle.register_kinds.specs.declared.kind.RegKind.TheVariants.{Ctx, Frame, Map, Value}
use Rattle.register_kinds.specs.declared.kind.RegKind.TheVariants.{MaybeNull}
use Rattle.register_kinds.specs.declared.kind.CellKind.{CellKind}
use Rattle.register_kinds.specs.declared.kind.CellKind.TheVariants as cells
use Rattle.register_kinds.specs.declared.frame.FrameCells.{FrameCells}
use Rattle.register_kinds.specs.declared.state.AbsState.{AbsState}

abbrev pub kind_of : RegKind → model.Kind
kind_of Unwritten = model.Blank
kind_of Ended = model.Ended
kind_of Mixed = model.Mixed
kind_of (Num s) = model.Num s
kind_of (Ctx s) = model.CtxAt s
kind_of (Frame o) = model.FrameAt o
kind_of (Map map) = model.MapAt map
kind_of (Value map s) = model.ValueAt map s
kind_of (MaybeNull map id) = model.MaybeNull map id

-- a cell of a class, in a group where this was stored
abbrev pub cell_of : RegKind → CellKind → model.CellKind
cell_of spill cells.Unwritten = model.BlankCell
cell_of spill cells.Ended = model.EndedCell
cell_of spill cells.Mixed = model.MixedCell
cell_of spill cells.Byte = model.ByteCell
cell_of spill cells.Part = model.PartCell (kind_of spill)

-- what a list has at an index; past its end nothing is known
abbrev pub kind_in : List RegKind → ℕ → RegKind
kind_in kinds r = slice_index_or kinds r Unwritten

abbrev pub class_in : List CellKind → ℕ → CellKind
class_in all k = slice_index_or all k cells.Unwritten

abbrev pub kind_at : List RegKind → ℕ → model.Kind
kind_at kinds r = kind_of (kind_in kinds r)

abbrev pub cell_at : FrameCells → ℕ → model.CellKind
cell_at f k = cell_of (kind_in f.spills (k / 8)) (class_in f.cells k)

abbrev pub state_of : AbsState → model.AbsState
state_of a = record { regs = kind_at a.regs; cells = cell_at a.frame; depth = a.depth }

-- a reference, or null
abbrev pub is_pointer : RegKind → Bool
is_pointer Unwritten = false
is_pointer Ended = false
is_pointer Mixed = false
is_pointer (Num s) = false
is_pointer (Ctx s) = true
is_pointer (Frame o) = true
is_pointer (Map map) = true
is_pointer (Value map s) = true
is_pointer (MaybeNull map id) = true
