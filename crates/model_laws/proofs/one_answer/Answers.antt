use Rattle.model_laws.proofs.Deciding.{one_answer}
use Rattle.model_laws.proofs.one_answer.Goals as goal

pub returns : goal.returns
returns c = one_answer
