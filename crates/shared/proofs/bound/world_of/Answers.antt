use Rattle.shared.proofs.NewWorlds.{no_runs}
use Rattle.shared.proofs.bound.world_of.Goals as goal

pub returns-in-Ok-clause-quiet : goal.returns-in-Ok-clause-quiet
returns-in-Ok-clause-quiet c = no_runs c.in-Ok.world _ _ _ c.in-Ok.ensures.view
