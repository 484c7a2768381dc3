use Rattle.plan_laws.proofs.Reaching.{keeps_well}
use Rattle.plan_laws.proofs.keeps_well.Goals as goal

pub returns : goal.returns
returns c = keeps_well
