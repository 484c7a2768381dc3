use Rattle.model_laws.proofs.Draining.{reap_steps}
use Rattle.model_laws.proofs.reap_steps.Goals as goal

pub returns : goal.returns
returns c = reap_steps
