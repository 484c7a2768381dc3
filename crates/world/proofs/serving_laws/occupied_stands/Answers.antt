use Rattle.world.proofs.Occupied.{stands}
use Rattle.world.proofs.serving_laws.occupied_stands.Goals as goal

pub returns : goal.returns
returns c = stands
