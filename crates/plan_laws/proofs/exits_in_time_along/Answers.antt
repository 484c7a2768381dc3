use Rattle.plan_laws.proofs.Timing.{exits_in_time_along}
use Rattle.plan_laws.proofs.exits_in_time_along.Goals as goal

pub returns : goal.returns
returns c = exits_in_time_along
