use Rattle.plan_laws.proofs.Elements.{load_transfers}
use Rattle.plan_laws.proofs.load_transfers.Goals as goal

pub returns : goal.returns
returns c = load_transfers
