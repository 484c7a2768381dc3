use Rattle.model_laws.proofs.Worlds.{tracked_reclaimed_late}
use Rattle.model_laws.proofs.tracked_reclaimed_late.Goals as goal

pub returns : goal.returns
returns c = tracked_reclaimed_late
