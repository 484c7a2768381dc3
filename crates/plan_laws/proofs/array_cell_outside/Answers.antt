use Rattle.plan_laws.proofs.Sets.{array_cell_outside}
use Rattle.plan_laws.proofs.array_cell_outside.Goals as goal

pub returns : goal.returns
returns c = array_cell_outside
