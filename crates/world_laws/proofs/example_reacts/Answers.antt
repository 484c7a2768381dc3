use Rattle.world_laws.proofs.Reading.{example_reacts}
use Rattle.world_laws.proofs.example_reacts.Goals as goal

pub returns : goal.returns
returns c = example_reacts
