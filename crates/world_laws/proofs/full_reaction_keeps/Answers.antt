use Rattle.world_laws.proofs.Keeping.{full_keeps}
use Rattle.world_laws.proofs.full_reaction_keeps.Goals as goal

pub returns-clause-shapes : goal.returns-clause-shapes
returns-clause-shapes c w event = (full_keeps w event).0

pub returns-clause-programs : goal.returns-clause-programs
returns-clause-programs c w event = (full_keeps w event).1

pub returns-clause-names : goal.returns-clause-names
returns-clause-names c w event = (full_keeps w event).2
