use Rattle.plan_laws.proofs.Planning.{kept_is_closed}
use Rattle.plan_laws.proofs.kept_is_closed.Goals as goal

pub returns : goal.returns
returns c = kept_is_closed
