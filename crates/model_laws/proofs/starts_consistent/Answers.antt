use Rattle.model_laws.proofs.Keeping.{starts_consistent}
use Rattle.model_laws.proofs.starts_consistent.Goals as goal

pub returns : goal.returns
returns c = starts_consistent
