use Rattle.model_laws.proofs.Running.{unlock_simulates}
use Rattle.model_laws.proofs.views.unlock_simulates.Goals as goal

pub returns : goal.returns
returns c = unlock_simulates
