use Rattle.plan_laws.proofs.Timing.{tracked_exits_in_time}
use Rattle.plan_laws.proofs.tracked_exits_in_time.Goals as goal

pub returns : goal.returns
returns c = tracked_exits_in_time
