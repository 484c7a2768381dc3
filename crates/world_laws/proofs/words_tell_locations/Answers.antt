use Rattle.world_laws.proofs.Places.{words_tell_locations}
use Rattle.world_laws.proofs.words_tell_locations.Goals as goal

pub returns : goal.returns
returns c = words_tell_locations
