use Rattle.world_laws.proofs.Listed.{stays_listed}
use Rattle.world_laws.proofs.stays_listed.Goals as goal

pub returns : goal.returns
returns c = stays_listed
