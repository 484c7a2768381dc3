use Rattle.plan_laws.proofs.Spilling.{fill_transfers}
use Rattle.plan_laws.proofs.fill_transfers.Goals as goal

pub returns : goal.returns
returns c = fill_transfers
