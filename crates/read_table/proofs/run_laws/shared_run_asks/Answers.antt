use Rattle.read_table.proofs.Prelude.{table_of}
use Rattle.shared_runs.proofs.Asked.{can-serve}
use Rattle.read_table.proofs.Stretches.{is_table}
use Rattle.read_table.proofs.run_laws.shared_run_asks.Goals as goal

pub returns : goal.returns
returns g = λ k c context ms v after request x s. can-serve (table_of k) (is_table k) c context ms v x request after s
