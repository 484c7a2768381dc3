use Rattle.world.proofs.Giving.{may_give}
use Rattle.world.proofs.serving_laws.served_may_be_given.Goals as goal

pub returns : goal.returns
returns c = may_give
