use Rattle.model_laws.proofs.Running.{halves_simulate}
use Rattle.model_laws.proofs.views.halves_simulate.Goals as goal

pub returns : goal.returns
returns c = halves_simulate
