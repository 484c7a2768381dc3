use Rattle.model_laws.proofs.Scheduling.{starts_scheduled}
use Rattle.model_laws.proofs.starts_scheduled.Goals as goal

pub returns : goal.returns
returns c = starts_scheduled
