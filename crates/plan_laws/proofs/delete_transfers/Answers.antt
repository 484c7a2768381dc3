use Rattle.plan_laws.proofs.Updating.{delete_transfers}
use Rattle.plan_laws.proofs.delete_transfers.Goals as goal

pub returns : goal.returns
returns c = delete_transfers
