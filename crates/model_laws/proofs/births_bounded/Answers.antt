use Rattle.model_laws.proofs.Accounting.{births_bounded}
use Rattle.model_laws.proofs.births_bounded.Goals as goal

pub returns : goal.returns
returns c = births_bounded
