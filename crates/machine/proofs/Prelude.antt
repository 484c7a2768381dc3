-- The names of this crate that most proofs cite, passed on from one place.
pub use Rattle.machine.specs.Courses.{words_of, IsOn, index_of, view_of}
pub use Rattle.machine.specs.Moves.{own_number, ReachesFrame, offset_from, ReachesContext, IsElsewhere, IsNoFrame, LeadsToTarget}
pub use Rattle.machine.specs.Regions.{IsCodeOf, IsInWordRegion, AgreesWithRegion}
pub use Rattle.machine.specs.Requests.{request_of, resumed_view, entered_view, kernel_request, IsInOwn, IsServed, MayResume, IsInDepth}
pub use Rattle.machine.specs.RunWords.{RunWords, IsAt, run_words}
pub use Rattle.machine.specs.Standing.{IsRunOfChecked, IsValidRun, MayGive, Awaits, IsReplyTo, IsAnswered, IsValidAfter, AreHashMaps}
pub use Rattle.machine.specs.Steps.{TakesStep, IsLocalStep, CanStep, CanResume, MovesOn, stays}
pub use Rattle.machine.specs.Walks.{IsBefore, WalksOn, at_first, one_more}
pub use Rattle.machine.specs.Workspaces.{DoesAt, own_view, view_at, CanDo, IsMove, index_after, not_yet, CanAct, told, view_after, HasMoved, once_more}
pub use Rattle.machine.specs.Workspaces.{CanGoOn, IsFreshWorkspace, DoesStep, moved_on, HasFreshRegisters}
