use Rattle.plan_laws.proofs.Bound.{each_plan_describes}
use Rattle.plan_laws.proofs.each_plan_describes.Goals as goal

pub returns : goal.returns
returns c = each_plan_describes
