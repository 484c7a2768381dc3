use Rattle.world_laws.proofs.Worlds.{ready_stays}
use Rattle.world_laws.proofs.stays_ready.Goals as goal

pub returns : goal.returns
returns c = ready_stays
