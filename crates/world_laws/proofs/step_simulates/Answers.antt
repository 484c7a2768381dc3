use Rattle.world_laws.proofs.Stepping.{step_simulates}
use Rattle.world_laws.proofs.step_simulates.Goals as goal

pub returns : goal.returns
returns c = step_simulates
