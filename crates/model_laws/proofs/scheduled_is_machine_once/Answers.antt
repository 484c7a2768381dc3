use Rattle.model_laws.proofs.Worlds.{scheduled_is_machine_once}
use Rattle.model_laws.proofs.scheduled_is_machine_once.Goals as goal

pub returns : goal.returns
returns c = scheduled_is_machine_once
