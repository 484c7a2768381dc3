use Rattle.machine.proofs.Laws.{can_step}
use Rattle.machine.proofs.law.running_can_step.Goals as goal

pub returns : goal.returns
returns c = can_step
