use Rattle.plan_laws.proofs.Planning.{join_right}
use Rattle.plan_laws.proofs.join_right.Goals as goal

pub returns : goal.returns
returns c = join_right
