use Rattle.model_laws.proofs.Full.{no_memory_when_full}
use Rattle.model_laws.proofs.no_memory_when_full.Goals as goal

pub returns : goal.returns
returns c = no_memory_when_full
