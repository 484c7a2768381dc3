-- The names of this crate that most proofs cite, passed on from one place.
pub use Rattle.plan_laws.specs.Describes.{scene_of, Scene, Describes, IsOf, IsHeld, IsOfCell, Naming, HasOffset, IsGuarded, Stored, AreNear, IsArrayMap}
pub use Rattle.plan_laws.specs.Describes.{IsNullOrHeld, part_of, IsContextAt, IsElementOf}
pub use Rattle.plan_laws.specs.Effects.{with_kind, after_call, with_cells, IsNumberOperand, HasBytes, after_lock, after_unlock, is_array_in, IsFresh, HasMap}
pub use Rattle.plan_laws.specs.Effects.{IsAlwaysInside, left_kind, left_cell, IsOther, IsOtherCell, when_null, when_there, IsWritten, HasNumber, is_array}
pub use Rattle.plan_laws.specs.Effects.{has_array_shape, returned_kind, ended_kind, ended_cell, IsPointer, IsWiderKind}
pub use Rattle.plan_laws.specs.Kinds.{Num, AbsState, Kind, FrameAt, MapAt, Blank, ValueAt, CtxAt, ByteCell, MaybeNull, Mixed, Ended, CellKind, PartCell}
pub use Rattle.plan_laws.specs.Kinds.{BlankCell, MixedCell, EndedCell}
pub use Rattle.plan_laws.specs.Limits.{IsWithinLimits}
pub use Rattle.plan_laws.specs.MayExit.{MayExitFrom, may_exit_now, may_exit_later, MayExitWith}
pub use Rattle.plan_laws.specs.Planned.{AreAlike, origin, number_zero, Wider, entry_state, IsCovered, Joins, Covers, IsPlanKept}
pub use Rattle.plan_laws.specs.Verified.{IsVerified, Plan, Transfers, IsClosed, Surrounds, IsPlanned, AreMapsBound, HasStep, is_call, StaysKept, Leads}
pub use Rattle.plan_laws.specs.Verified.{IsPlannedAfter, JumpsToSlot, IsEnvironment, ActsAlone}
pub use Rattle.plan_laws.specs.Well.{IsWell, AreVerified, IsTyped, IsVerifiedFor}
