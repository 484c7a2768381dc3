use Rattle.world_laws.proofs.Stepping.{full_simulates}
use Rattle.world_laws.proofs.full_reaction_simulates.Goals as goal

pub returns : goal.returns
returns c = full_simulates
