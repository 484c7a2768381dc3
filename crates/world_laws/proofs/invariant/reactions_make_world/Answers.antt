use Rattle.world_laws.proofs.KeepingWorlds.{reactions_make_world}
use Rattle.world_laws.proofs.invariant.reactions_make_world.Goals as goal

pub returns : goal.returns
returns c = reactions_make_world
