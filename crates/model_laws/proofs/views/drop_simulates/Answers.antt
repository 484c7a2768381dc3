use Rattle.model_laws.proofs.Reacting.{drop_simulates}
use Rattle.model_laws.proofs.views.drop_simulates.Goals as goal

pub returns : goal.returns
returns c = drop_simulates
