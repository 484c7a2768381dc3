use Rattle.world_laws.proofs.KeepingWorlds.{start_is_world}
use Rattle.world_laws.proofs.invariant.start_is_world.Goals as goal

pub returns : goal.returns
returns c = start_is_world
