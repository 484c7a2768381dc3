use Rattle.model_laws.proofs.Worlds.{scheduled_is_machine}
use Rattle.model_laws.proofs.scheduled_is_machine.Goals as goal

pub returns : goal.returns
returns c = scheduled_is_machine
