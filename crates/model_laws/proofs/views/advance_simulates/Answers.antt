use Rattle.model_laws.proofs.ViewsAdvancing.{advance_simulates}
use Rattle.model_laws.proofs.views.advance_simulates.Goals as goal

pub returns : goal.returns
returns c = advance_simulates
