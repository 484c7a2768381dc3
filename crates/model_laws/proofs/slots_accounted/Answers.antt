use Rattle.model_laws.proofs.Accounting.{slots_accounted}
use Rattle.model_laws.proofs.slots_accounted.Goals as goal

pub returns : goal.returns
returns c = slots_accounted
