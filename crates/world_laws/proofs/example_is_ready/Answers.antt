use Rattle.world_laws.proofs.Examples.{example_ready}
use Rattle.world_laws.proofs.example_is_ready.Goals as goal

pub returns : goal.returns
returns c = example_ready
