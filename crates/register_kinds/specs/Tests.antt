-- What may be read, and which test fails first.
use Rattle.std.specs.Prelude.{◌≡◌, ℕ, ◌+◌, ◌<◌, ◌≤◌, Result, Ok, Err, ℤ, List}
use Rattle.scalar_domain.specs.declared.scalar.Scalar.{Scalar}
use Rattle.register_kinds.specs.declared.kind.RegKind.{RegKind}
use Rattle.register_kinds.specs.declared.kind.RegKind.TheVariants.{Unwritten, Ended, Mixed, Num}
use Rattle.register_kinds.specs.declared.kind.RegKind.TheVariants.{Frame}
use Rattle.register_kinds.specs.declared.kind.CellKind.{CellKind}
use Rattle.register_kinds.specs.declared.kind.CellKind.TheVariants as class
use Rattle.register_kinds.specs.States.{class_in}
use Rattle.register_kinds.specs.declared.fault.InsnFault.{InsnFault}
use Rattle.register_kinds.specs.declared.fault.InsnFault.TheVariants.{UnwrittenRegister}
use Rattle.register_kinds.specs.declared.fault.InsnFault.TheVariants.{OutsideSection}
use Rattle.register_kinds.specs.declared.fault.InsnFault.TheVariants.{MixedRegions, WrongArgument}
use Rattle.register_kinds.specs.declared.fault.InsnFault.TheVariants.{UnwrittenFrame, PointerLeak}

-- What a register that is read holds, or why it may not be read.
abbrev pub held_kind : RegKind → Result RegKind InsnFault
held_kind Unwritten = Err UnwrittenRegister
held_kind Ended = Err OutsideSection
held_kind Mixed = Err MixedRegions
held_kind kind = Ok kind

-- a cell of the class is among those of an access
pub record HasCell (cells : List CellKind) (at width : ℕ) (class : CellKind) : Type 0 where
  pub k : ℕ
  pub from : at ≤ k
  pub to : k < at + width
  pub is : class_in cells k ≡ class

-- no cell of an access is of the class
abbrev pub HasNoCell : List CellKind → ℕ → ℕ → CellKind → Type 0
HasNoCell cells at width class = (k : ℕ) → at ≤ k → k < at + width → class_in cells k ≡ class → ⊥

-- all cells of an access are of the class
abbrev pub AreAll : List CellKind → ℕ → ℕ → CellKind → Type 0
AreAll cells at width class = (k : ℕ) → at ≤ k → k < at + width → class_in cells k ≡ class

-- all cells of an access are bytes of numbers or parts of references
abbrev pub AreWritten : List CellKind → ℕ → ℕ → Type 0
AreWritten cells at width =
    HasNoCell cells at width class.Unwritten × HasNoCell cells at width class.Ended
    × HasNoCell cells at width class.Mixed

-- Why the bytes of an access may not be read: the first test that fails.
abbrev pub IsCellFault : List CellKind → ℕ → ℕ → InsnFault → Type 0
IsCellFault cells at width UnwrittenFrame = HasCell cells at width class.Unwritten
IsCellFault cells at width OutsideSection =
    HasNoCell cells at width class.Unwritten × HasCell cells at width class.Ended
IsCellFault cells at width MixedRegions =
    HasNoCell cells at width class.Unwritten × HasNoCell cells at width class.Ended
    × HasCell cells at width class.Mixed
IsCellFault cells at width e = ⊥

-- Why the bytes of an access are no bytes of numbers: the first test that fails.
abbrev pub IsBytesFault : List CellKind → ℕ → ℕ → InsnFault → Type 0
IsBytesFault cells at width PointerLeak =
    AreWritten cells at width × HasCell cells at width class.Part
IsBytesFault cells at width e = IsCellFault cells at width e

-- The offset in the frame that a call is given, or why it is given none.
abbrev pub frame_of : RegKind → Result ℤ InsnFault
frame_of Unwritten = Err UnwrittenRegister
frame_of Ended = Err OutsideSection
frame_of Mixed = Err MixedRegions
frame_of (Frame o) = Ok o
frame_of kind = Err WrongArgument

-- The numbers that a call may be given, or why it is given none.
abbrev pub numbers_of : RegKind → Result Scalar InsnFault
numbers_of Unwritten = Err UnwrittenRegister
numbers_of Ended = Err OutsideSection
numbers_of Mixed = Err MixedRegions
numbers_of (Num s) = Ok s
numbers_of kind = Err WrongArgument
