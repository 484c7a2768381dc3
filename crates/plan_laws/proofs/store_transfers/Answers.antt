use Rattle.plan_laws.proofs.Elements.{store_transfers}
use Rattle.plan_laws.proofs.store_transfers.Goals as goal

pub returns : goal.returns
returns c = store_transfers
