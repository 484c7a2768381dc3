use Rattle.model_laws.proofs.Past.{section_never_reopens}
use Rattle.model_laws.proofs.section_never_reopens.Goals as goal

pub returns : goal.returns
returns c = section_never_reopens
