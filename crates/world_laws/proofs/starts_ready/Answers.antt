use Rattle.world_laws.proofs.Worlds.{starts_ready}
use Rattle.world_laws.proofs.starts_ready.Goals as goal

pub returns : goal.returns
returns c = starts_ready
