use Rattle.model_laws.proofs.Joining.{scheduled_from_start}
use Rattle.model_laws.proofs.scheduled_from_start.Goals as goal

pub returns : goal.returns
returns c = scheduled_from_start
