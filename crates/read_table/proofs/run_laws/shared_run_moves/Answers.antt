use Rattle.read_table.proofs.Prelude.{table_of}
use Rattle.shared_runs.proofs.Steps.{moves}
use Rattle.read_table.proofs.run_laws.shared_run_moves.Goals as goal

pub returns : goal.returns
returns g = λ k c context ms v new x s. moves (table_of k) c context ms v x new s
