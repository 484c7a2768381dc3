use Rattle.world_laws.proofs.Histories.{reached_with_one_more}
use Rattle.world_laws.proofs.adding.reached_with_one_more.Goals as goal

pub returns : goal.returns
returns c = reached_with_one_more
