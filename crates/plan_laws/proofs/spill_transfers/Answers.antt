use Rattle.plan_laws.proofs.Spilling.{spill_transfers}
use Rattle.plan_laws.proofs.spill_transfers.Goals as goal

pub returns : goal.returns
returns c = spill_transfers
