use Rattle.world_laws.proofs.Listed.{reached_is_listed}
use Rattle.world_laws.proofs.reached_is_listed.Goals as goal

pub returns : goal.returns
returns c = reached_is_listed
