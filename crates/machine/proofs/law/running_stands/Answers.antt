use Rattle.machine.proofs.RunningStands.{running_stands}
use Rattle.machine.proofs.law.running_stands.Goals as goal

pub returns : goal.returns
returns c = running_stands
