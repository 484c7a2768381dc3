use Rattle.world_laws.proofs.Alike.{exit_alike}
use Rattle.world_laws.proofs.exits.exit_alike.Goals as goal

pub returns : goal.returns
returns c = exit_alike
