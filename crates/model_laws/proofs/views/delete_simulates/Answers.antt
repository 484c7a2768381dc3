use Rattle.model_laws.proofs.Deleting.{delete_simulates}
use Rattle.model_laws.proofs.views.delete_simulates.Goals as goal

pub returns : goal.returns
returns c = delete_simulates
