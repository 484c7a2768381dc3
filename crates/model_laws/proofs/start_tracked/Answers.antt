use Rattle.model_laws.proofs.Starting.{start_tracked}
use Rattle.model_laws.proofs.start_tracked.Goals as goal

pub returns : goal.returns
returns c = start_tracked
