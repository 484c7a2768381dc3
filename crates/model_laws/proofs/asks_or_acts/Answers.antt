use Rattle.model_laws.proofs.Requests.{asks_or_acts}
use Rattle.model_laws.proofs.asks_or_acts.Goals as goal

pub returns : goal.returns
returns c = asks_or_acts
