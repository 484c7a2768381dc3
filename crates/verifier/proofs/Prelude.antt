-- The names of this crate that most proofs cite, passed on from one place.
pub use Rattle.verifier.specs.Checked.{Checked}
pub use Rattle.verifier.specs.FactsKnown.{AreKnown, IsInner}
pub use Rattle.verifier.specs.FirstPass.{IsInsnReached, Follows, target_of, IsFirstUnreached}
pub use Rattle.verifier.specs.GraphFlaws.{HasGoodGraph, HasGraphFlaw, jump_flaw, JumpsWell, missing, landing_flaw, distance_flaw, IsFirstBadJump}
pub use Rattle.verifier.specs.Indexes.{HasTargets, IsTarget}
pub use Rattle.verifier.specs.Peak.{IsPeak}
pub use Rattle.verifier.specs.SecondPass.{awaited, state_in, size_of, Table, occupied, states_in, holding, Awaited, Merged, StartsFrom, AllBelow, HasWaiting}
pub use Rattle.verifier.specs.SecondPass.{DiffersAhead, Leads, Jumped, Advances, Passed, AreSame, JoinsTo, Fell, refusal_of, AreStatesCounted, Joined, Notes}
pub use Rattle.verifier.specs.SecondPass.{IsPassed, planned}
pub use Rattle.verifier.specs.Verdict.{IsJustified, IsToldOf}
pub use Rattle.verifier.specs.Waiting.{Puts, WaitsAtTargets, MovesStates, GoesOn}
