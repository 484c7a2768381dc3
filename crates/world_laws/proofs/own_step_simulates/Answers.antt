use Rattle.world_laws.proofs.Stepping.{own_step_simulates}
use Rattle.world_laws.proofs.own_step_simulates.Goals as goal

pub returns : goal.returns
returns c w s m sound r run later v k i out answer here e ends = own_step_simulates w s m sound r run v k i out answer later here e ends
