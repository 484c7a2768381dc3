use Rattle.plan_laws.proofs.Planning.{transfers_wider}
use Rattle.plan_laws.proofs.transfers_wider.Goals as goal

pub returns : goal.returns
returns c = transfers_wider
