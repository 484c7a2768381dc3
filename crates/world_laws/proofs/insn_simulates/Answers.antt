use Rattle.world_laws.proofs.Stepping.{insn_simulates}
use Rattle.world_laws.proofs.insn_simulates.Goals as goal

pub returns : goal.returns
returns c w s m sound r run later v k i answer new here h = insn_simulates w s m sound r run v k i answer new later here h
