use Rattle.plan_laws.proofs.Reaching.{tracked_never_stuck}
use Rattle.plan_laws.proofs.tracked_never_stuck.Goals as goal

pub returns : goal.returns
returns c = tracked_never_stuck
