use Rattle.plan_laws.proofs.Elements.{load_signed_transfers}
use Rattle.plan_laws.proofs.load_signed_transfers.Goals as goal

pub returns : goal.returns
returns c = load_signed_transfers
