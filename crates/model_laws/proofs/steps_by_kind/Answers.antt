use Rattle.model_laws.proofs.Requests.{steps_by_kind}
use Rattle.model_laws.proofs.steps_by_kind.Goals as goal

pub returns : goal.returns
returns c i store new_store opened run new answer = steps_by_kind i store opened run answer new_store new
