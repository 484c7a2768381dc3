use Rattle.model_laws.proofs.Updating.{update_half}
use Rattle.model_laws.proofs.views.update_half.Goals as goal

pub returns : goal.returns
returns c = update_half
