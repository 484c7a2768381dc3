use Rattle.model_laws.proofs.Scheduling.{stays_scheduled}
use Rattle.model_laws.proofs.stays_scheduled.Goals as goal

pub returns : goal.returns
returns c = stays_scheduled
