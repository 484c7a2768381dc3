use Rattle.plan_laws.proofs.Reaching.{reached_is_well}
use Rattle.plan_laws.proofs.reached_is_well.Goals as goal

pub returns : goal.returns
returns c = reached_is_well
