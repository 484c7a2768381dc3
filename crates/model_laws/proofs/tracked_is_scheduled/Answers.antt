use Rattle.model_laws.proofs.Reached.{tracked_is_scheduled}
use Rattle.model_laws.proofs.tracked_is_scheduled.Goals as goal

pub returns : goal.returns
returns c = tracked_is_scheduled
