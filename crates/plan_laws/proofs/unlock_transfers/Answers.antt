use Rattle.plan_laws.proofs.Calls.{unlock_transfers}
use Rattle.plan_laws.proofs.unlock_transfers.Goals as goal

pub returns : goal.returns
returns c = unlock_transfers
