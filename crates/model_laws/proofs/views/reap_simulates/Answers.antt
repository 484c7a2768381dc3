use Rattle.model_laws.proofs.Reaping.{reap_simulates}
use Rattle.model_laws.proofs.views.reap_simulates.Goals as goal

pub returns : goal.returns
returns c = reap_simulates
