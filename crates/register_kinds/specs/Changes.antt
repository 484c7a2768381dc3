-- What changes in a state, register by register and byte by byte.
use Rattle.std.specs.Prelude.{◌==◌, if◌then◌else◌}
use Rattle.plan_laws.specs.Kinds.{Kind, CellKind, AbsState as Known}
use Rattle.plan_laws.specs.Effects.{ended_kind, ended_cell, null_kind, null_cell, there_kind}
use Rattle.plan_laws.specs.Effects.{there_cell, is_array_in}
use Rattle.plan_laws.specs.Planned.{number_zero, origin}
use Rattle.register_kinds.specs.declared.kind.RegKind.{RegKind}
use Rattle.register_kinds.specs.declared.kind.RegKind.TheVariants as kinds
use Rattle.register_kinds.specs.declared.kind.CellKind as classes
use Rattle.register_kinds.specs.declared.kind.CellKind.TheVariants as class
use Rattle.register_kinds.specs.declared.learn.Lesson.{Lesson}
use Rattle.register_kinds.specs.declared.learn.Lesson.TheVariants.{SectionEnds, IsNull, IsThere}

-- What is learnt at once of all that may be an element, in registers and in the frame.
abbrev pub learnt_kind : Lesson → Kind → Kind
learnt_kind (SectionEnds shapes) kind = ended_kind shapes.now kind
learnt_kind (IsNull id) kind = null_kind id number_zero kind
learnt_kind (IsThere id) kind = there_kind id origin kind

abbrev pub learnt_cell : Lesson → CellKind → CellKind
learnt_cell (SectionEnds shapes) cell = ended_cell shapes.now cell
learnt_cell (IsNull id) cell = null_cell id cell
learnt_cell (IsThere id) cell = there_cell id origin cell

abbrev pub learnt : Lesson → Known → Known
learnt lesson a = record {
  regs = λ r. learnt_kind lesson (a.regs r);
  cells = λ k. learnt_cell lesson (a.cells k);
  depth = a.depth;
}

-- the class of what was a part of this
abbrev pub learnt_part : Lesson → RegKind → classes.CellKind
learnt_part (SectionEnds shapes) (kinds.Value map s) =
    if is_array_in shapes.now map then class.Part else class.Ended
learnt_part (SectionEnds shapes) (kinds.MaybeNull map id) =
    if is_array_in shapes.now map then class.Part else class.Ended
learnt_part (IsNull id) (kinds.MaybeNull map i) = if i == id then class.Byte else class.Part
learnt_part lesson spill = class.Part

abbrev pub learnt_class : Lesson → RegKind → classes.CellKind → classes.CellKind
learnt_class lesson spill class.Part = learnt_part lesson spill
learnt_class lesson spill other = other
