use Rattle.model_laws.proofs.Deleting.{delete_half}
use Rattle.model_laws.proofs.views.delete_half.Goals as goal

pub returns : goal.returns
returns c = delete_half
