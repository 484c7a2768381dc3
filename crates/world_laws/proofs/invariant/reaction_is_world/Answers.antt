use Rattle.world_laws.proofs.KeepingWorlds.{reaction_is_world}
use Rattle.world_laws.proofs.invariant.reaction_is_world.Goals as goal

pub returns : goal.returns
returns c = reaction_is_world
