use Rattle.world_laws.proofs.Worlds.{ready_after, bounded_after}
use Rattle.world_laws.proofs.all_reactions_keep.Goals as goal

pub returns-clause-ready : goal.returns-clause-ready
returns-clause-ready c = ready_after

pub returns-clause-bounded : goal.returns-clause-bounded
returns-clause-bounded c = bounded_after
