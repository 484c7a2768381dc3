use Rattle.model_laws.proofs.Draining.{reapable_in}
use Rattle.model_laws.proofs.reapable_in.Goals as goal

pub returns : goal.returns
returns c = reapable_in
