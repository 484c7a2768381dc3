use Rattle.model_laws.proofs.Bounded.{given_bounded}
use Rattle.model_laws.proofs.given_bounded.Goals as goal

pub returns : goal.returns
returns c = given_bounded
