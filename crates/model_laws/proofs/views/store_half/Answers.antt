use Rattle.model_laws.proofs.Storing.{store_half}
use Rattle.model_laws.proofs.views.store_half.Goals as goal

pub returns : goal.returns
returns c = store_half
