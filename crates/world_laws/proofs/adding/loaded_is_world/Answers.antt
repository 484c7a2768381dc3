use Rattle.world_laws.proofs.OneMore.{loaded_is_world}
use Rattle.world_laws.proofs.adding.loaded_is_world.Goals as goal

pub returns : goal.returns
returns c = loaded_is_world
