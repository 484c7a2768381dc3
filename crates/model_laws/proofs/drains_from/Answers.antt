use Rattle.model_laws.proofs.Draining.{drains_from}
use Rattle.model_laws.proofs.drains_from.Goals as goal

pub returns : goal.returns
returns c = drains_from
