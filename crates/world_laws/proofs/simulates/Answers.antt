use Rattle.world_laws.proofs.Worlds.{simulates}
use Rattle.world_laws.proofs.simulates.Goals as goal

pub returns : goal.returns
returns c = simulates
