-- The names of this crate that most proofs cite, passed on from one place.
pub use Rattle.effects.specs.Accesses.{IsReadByLoad, read_kind, ReachesFrame, LoadsKnown, ReadsBytes, ReadsValue}
pub use Rattle.effects.specs.Calls.{MayLookUp, IsArgument, AreArguments, IsLeft, PerformsCall, is_array_of, helper_fault, Splits, section_fault}
pub use Rattle.effects.specs.Computes.{HasValue, shifted_word, MovesOffsets, SetsKind}
pub use Rattle.effects.specs.Floor.{operand_kind}
pub use Rattle.effects.specs.Forks.{taken_from, ForksOnNull, Forks}
pub use Rattle.effects.specs.Narrowing.{ComparesNumbers, Narrows, AreNarrowed}
pub use Rattle.effects.specs.Performs.{IsNumbers}
pub use Rattle.register_kinds.specs.declared.fault.InsnFault.{InsnFault}
pub use Rattle.register_kinds.specs.declared.fault.InsnFault.TheVariants.{OutsideSection}
pub use Rattle.register_kinds.specs.declared.kind.RegKind.{RegKind}
pub use Rattle.register_kinds.specs.declared.learn.Lesson.TheVariants.{IsNull, IsThere}
pub use Rattle.register_kinds.specs.declared.state.AbsState.{AbsState}
