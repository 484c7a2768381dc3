use Rattle.model_laws.proofs.Joining.{scheduled_grow}
use Rattle.model_laws.proofs.scheduled_grow.Goals as goal

pub returns : goal.returns
returns c = scheduled_grow
