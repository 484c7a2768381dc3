use Rattle.plan_laws.proofs.Reaching.{never_stuck_along}
use Rattle.plan_laws.proofs.never_stuck_along.Goals as goal

pub returns : goal.returns
returns c = never_stuck_along
