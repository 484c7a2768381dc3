use Rattle.world_laws.proofs.Reaching.{insn_there}
use Rattle.world_laws.proofs.insn_is_there.Goals as goal

pub returns : goal.returns
returns c = insn_there
