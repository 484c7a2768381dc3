use Rattle.world_laws.proofs.OneMore.{refines_with_one_more}
use Rattle.world_laws.proofs.adding.refines_with_one_more.Goals as goal

pub returns : goal.returns
returns c = refines_with_one_more
