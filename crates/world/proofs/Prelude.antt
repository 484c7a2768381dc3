-- The names of this crate that most proofs cite, passed on from one place.
pub use Rattle.machine.specs.declared.request.Request.{Request}
pub use Rattle.machine.specs.declared.request.Request.TheVariants.{Call, Enter, Leave}
pub use Rattle.machine.specs.declared.outcome.Walk.{Walk}
pub use Rattle.world.specs.Asking.{stat_of}
pub use Rattle.world.specs.BoundTo.{AreProgramsBound, IsBound}
pub use Rattle.world.specs.Brief.{brief_answer}
pub use Rattle.world.specs.Calls.{called, called_at, called_on}
pub use Rattle.world.specs.Elements.{ReachesElement, element_number}
pub use Rattle.world.specs.Keeping.{view_of, world_of, HasNoRun, flag_of, IsKept, AreRunsKept, IsOfProgram, depth_of_run, ArePartsKept}
pub use Rattle.world.specs.Programs.{program_of, programs_in}
pub use Rattle.world.specs.Serving.{CanServe, IsFlagged, IsReply, maps_after, grace_after, with_view, ShowsGrace, world_with}
pub use Rattle.world.specs.Stepping.{HasTaken}
pub use Rattle.world.specs.Stretches.{MakesMoves, not_yet, WouldMove, WouldBeRefused, once_more}
