use Rattle.element_store.proofs.RunWords.{no_flags}
use Rattle.element_store.proofs.run_set.RunSet.empty.Goals as goal

pub returns : goal.returns
returns c = no_flags
