use Rattle.model_laws.proofs.Plains.{plain_with_maps}
use Rattle.model_laws.proofs.plain_with_maps.Goals as goal

pub returns : goal.returns
returns c = plain_with_maps
