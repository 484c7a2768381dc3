use Rattle.plan_laws.proofs.Local.{equal_transfers}
use Rattle.plan_laws.proofs.equal_transfers.Goals as goal

pub returns : goal.returns
returns c = equal_transfers
