use Rattle.model_laws.proofs.Joining.{steps_make_scheduled}
use Rattle.model_laws.proofs.steps_make_scheduled.Goals as goal

pub returns : goal.returns
returns c = steps_make_scheduled
