use Rattle.plan_laws.proofs.Nearness.{tracked_is_near}
use Rattle.plan_laws.proofs.tracked_is_near.Goals as goal

pub returns : goal.returns
returns c = tracked_is_near
