use Rattle.model_laws.proofs.Reading.{read_simulates}
use Rattle.model_laws.proofs.views.read_simulates.Goals as goal

pub returns : goal.returns
returns c = read_simulates
