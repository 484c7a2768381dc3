use Rattle.model_laws.proofs.Alone.{starts_sharing_nothing}
use Rattle.model_laws.proofs.starts_sharing_nothing.Goals as goal

pub returns : goal.returns
returns c = record { own = starts_sharing_nothing }
