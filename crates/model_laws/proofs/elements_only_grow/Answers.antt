use Rattle.model_laws.proofs.Stepping.{elements_only_grow}
use Rattle.model_laws.proofs.elements_only_grow.Goals as goal

pub returns : goal.returns
returns c = elements_only_grow
