use Rattle.model_laws.proofs.ViewsStarting.{start_simulates}
use Rattle.model_laws.proofs.views.start_simulates.Goals as goal

pub returns : goal.returns
returns c = start_simulates
