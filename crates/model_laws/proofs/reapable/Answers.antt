use Rattle.model_laws.proofs.Draining.{reapable}
use Rattle.model_laws.proofs.reapable.Goals as goal

pub returns : goal.returns
returns c = reapable
