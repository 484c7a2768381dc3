use Rattle.model_laws.proofs.Stepping.{reclaimed_for_ever}
use Rattle.model_laws.proofs.reclaimed_for_ever.Goals as goal

pub returns : goal.returns
returns c = reclaimed_for_ever
