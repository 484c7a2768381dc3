use Rattle.plan_laws.proofs.Updating.{update_transfers}
use Rattle.plan_laws.proofs.update_transfers.Goals as goal

pub returns : goal.returns
returns c = update_transfers
