use Rattle.model_laws.proofs.Joining.{scheduled_join}
use Rattle.model_laws.proofs.scheduled_join.Goals as goal

pub returns : goal.returns
returns c = scheduled_join
