use Rattle.world_laws.proofs.Stepping.{access_simulates}
use Rattle.world_laws.proofs.access_simulates.Goals as goal

pub returns : goal.returns
returns c w s m sound r run later v k i out es answer here h ends = access_simulates w s m sound r run v k i out es answer later here h ends
