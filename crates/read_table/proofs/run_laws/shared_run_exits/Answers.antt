use Rattle.read_table.proofs.Prelude.{table_of}
use Rattle.shared_runs.proofs.Steps.{exits}
use Rattle.read_table.proofs.run_laws.shared_run_exits.Goals as goal

pub returns : goal.returns
returns g = λ k c context ms v new n x s. exits (table_of k) c context ms v x n new s
