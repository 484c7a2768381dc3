use Rattle.model_laws.proofs.Running.{move_simulates}
use Rattle.model_laws.proofs.views.move_simulates.Goals as goal

pub returns : goal.returns
returns c = move_simulates
