use Rattle.plan_laws.proofs.Calls.{lookup_transfers}
use Rattle.plan_laws.proofs.lookup_transfers.Goals as goal

pub returns : goal.returns
returns c = lookup_transfers
