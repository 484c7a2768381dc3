use Rattle.read_table.proofs.Prelude.{table_of}
use Rattle.shared_runs.proofs.Steps.{goes-on}
use Rattle.read_table.proofs.run_laws.shared_run_goes_on.Goals as goal

pub returns : goal.returns
returns g = λ k c context ms v new x m. goes-on (table_of k) c context ms v new x m
