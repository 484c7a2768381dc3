use Rattle.plan_laws.proofs.Sets.{array_outside}
use Rattle.plan_laws.proofs.array_outside.Goals as goal

pub returns : goal.returns
returns c = array_outside
