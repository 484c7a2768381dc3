use Rattle.model_laws.proofs.Keeping.{stays_consistent}
use Rattle.model_laws.proofs.stays_consistent.Goals as goal

pub returns : goal.returns
returns c = stays_consistent
