use Rattle.plan_laws.proofs.Calls.{lock_transfers}
use Rattle.plan_laws.proofs.lock_transfers.Goals as goal

pub returns : goal.returns
returns c = lock_transfers
