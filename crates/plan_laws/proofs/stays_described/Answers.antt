use Rattle.plan_laws.proofs.Kept.{stays_described}
use Rattle.plan_laws.proofs.stays_described.Goals as goal

pub returns : goal.returns
returns c = stays_described
