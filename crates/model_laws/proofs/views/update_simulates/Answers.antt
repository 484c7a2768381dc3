use Rattle.model_laws.proofs.Updating.{update_simulates}
use Rattle.model_laws.proofs.views.update_simulates.Goals as goal

pub returns : goal.returns
returns c = update_simulates
