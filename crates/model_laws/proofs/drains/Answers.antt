use Rattle.model_laws.proofs.Draining.{drains}
use Rattle.model_laws.proofs.drains.Goals as goal

pub returns : goal.returns
returns c = drains
