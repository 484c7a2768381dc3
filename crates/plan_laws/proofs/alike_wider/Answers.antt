use Rattle.plan_laws.proofs.Planning.{alike_wider}
use Rattle.plan_laws.proofs.alike_wider.Goals as goal

pub returns : goal.returns
returns c = alike_wider
