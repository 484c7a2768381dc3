use Rattle.plan_laws.proofs.Reaching.{starts_well}
use Rattle.plan_laws.proofs.starts_well.Goals as goal

pub returns : goal.returns
returns c = starts_well
