use Rattle.read_table.proofs.Prelude.{table_of}
use Rattle.shared_runs.proofs.Steps.{standing}
use Rattle.read_table.proofs.run_laws.shared_run_stands.Goals as goal

pub returns : goal.returns
returns g = λ k c context ms v x. standing (table_of k) c context ms v x
