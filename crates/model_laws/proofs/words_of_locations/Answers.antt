use Rattle.model_laws.proofs.Words.{words_of_locations}
use Rattle.model_laws.proofs.words_of_locations.Goals as goal

pub returns : goal.returns
returns c = words_of_locations
