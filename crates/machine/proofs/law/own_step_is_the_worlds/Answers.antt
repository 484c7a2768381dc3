use Rattle.machine.proofs.Reacting.{own_step}
use Rattle.machine.proofs.law.own_step_is_the_worlds.Goals as goal

pub returns : goal.returns
returns c = own_step
