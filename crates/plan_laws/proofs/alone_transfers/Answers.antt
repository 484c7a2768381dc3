use Rattle.plan_laws.proofs.Local.{alone_transfers}
use Rattle.plan_laws.proofs.alone_transfers.Goals as goal

pub returns : goal.returns
returns c = alone_transfers
