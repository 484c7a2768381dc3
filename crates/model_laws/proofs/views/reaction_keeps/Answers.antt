use Rattle.model_laws.proofs.Reacting.{reaction_keeps}
use Rattle.model_laws.proofs.views.reaction_keeps.Goals as goal

pub returns-clause-shapes : goal.returns-clause-shapes
returns-clause-shapes c w event x h = (reaction_keeps w event x h).0

pub returns-clause-programs : goal.returns-clause-programs
returns-clause-programs c w event x h = (reaction_keeps w event x h).1

pub returns-clause-names : goal.returns-clause-names
returns-clause-names c w event x h = (reaction_keeps w event x h).2
