use Rattle.world.proofs.ServedSteps.{own_is}
use Rattle.world.proofs.serving_laws.own_changes_the_run.Goals as goal

pub returns : goal.returns
returns c = own_is
