use Rattle.model_laws.proofs.Reacting.{reaction_simulates}
use Rattle.model_laws.proofs.views.reaction_simulates.Goals as goal

pub returns : goal.returns
returns c = reaction_simulates
