use Rattle.plan_laws.proofs.Planning.{join_left}
use Rattle.plan_laws.proofs.join_left.Goals as goal

pub returns : goal.returns
returns c = join_left
