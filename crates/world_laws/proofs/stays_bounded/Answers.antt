use Rattle.world_laws.proofs.Worlds.{bounded_stays}
use Rattle.world_laws.proofs.stays_bounded.Goals as goal

pub returns : goal.returns
returns c = bounded_stays
