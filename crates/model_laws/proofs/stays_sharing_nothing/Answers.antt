use Rattle.model_laws.proofs.Alone.{stays_sharing_nothing}
use Rattle.model_laws.proofs.stays_sharing_nothing.Goals as goal

pub returns : goal.returns
returns c = record { own = stays_sharing_nothing }
