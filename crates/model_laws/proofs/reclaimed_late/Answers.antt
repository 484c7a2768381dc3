use Rattle.model_laws.proofs.Late.{reclaimed_late}
use Rattle.model_laws.proofs.reclaimed_late.Goals as goal

pub returns : goal.returns
returns c = reclaimed_late
