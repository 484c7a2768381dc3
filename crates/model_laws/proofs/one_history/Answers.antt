use Rattle.model_laws.proofs.Deciding.{one_history}
use Rattle.model_laws.proofs.one_history.Goals as goal

pub returns : goal.returns
returns c = one_history
