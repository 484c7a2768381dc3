use Rattle.model_laws.proofs.Reached.{reached_is_scheduled}
use Rattle.model_laws.proofs.reached_is_scheduled.Goals as goal

pub returns : goal.returns
returns c = reached_is_scheduled
