use Rattle.plan_laws.proofs.Local.{not_equal_transfers}
use Rattle.plan_laws.proofs.not_equal_transfers.Goals as goal

pub returns : goal.returns
returns c = not_equal_transfers
