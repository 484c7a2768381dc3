use Rattle.model_laws.proofs.Advancing.{two_quiet_advances}
use Rattle.model_laws.proofs.two_quiet_advances.Goals as goal

pub returns : goal.returns
returns c = two_quiet_advances
