use Rattle.model_laws.proofs.Running.{lock_simulates}
use Rattle.model_laws.proofs.views.lock_simulates.Goals as goal

pub returns : goal.returns
returns c = lock_simulates
