use Rattle.world_laws.proofs.KeepingWorlds.{world_is_matched}
use Rattle.world_laws.proofs.invariant.world_is_matched.Goals as goal

pub returns : goal.returns
returns c = world_is_matched
