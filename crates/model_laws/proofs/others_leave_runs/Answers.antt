use Rattle.model_laws.proofs.Leaving.{others_leave_runs}
use Rattle.model_laws.proofs.others_leave_runs.Goals as goal

pub returns : goal.returns
returns c m new event answer r run h at s d = others_leave_runs m new event answer r run h at s d
