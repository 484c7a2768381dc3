use Rattle.world_laws.proofs.Local.{local_agrees}
use Rattle.world_laws.proofs.local_agrees.Goals as goal

pub returns : goal.returns
returns c = local_agrees
