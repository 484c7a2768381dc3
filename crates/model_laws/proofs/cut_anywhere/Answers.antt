use Rattle.model_laws.proofs.Cutting.{cut_anywhere}
use Rattle.model_laws.proofs.cut_anywhere.Goals as goal

pub returns : goal.returns
returns c = cut_anywhere
