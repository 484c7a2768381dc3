use Rattle.shared_runs.proofs.Keeping as keeping
use Rattle.shared_runs.proofs.MapServing.{are_steps}
use Rattle.shared_runs.proofs.maps.running.PlacedServesRuns.is_table.Goals as goal

pub returns-clause-table : goal.returns-clause-table
returns-clause-table c = keeping.is_table c.args.words.now.table.now.shape c.args.words.now.first

pub returns-clause-steps : goal.returns-clause-steps
returns-clause-steps c = are_steps c.args.words.now.table.now c.args.words.now.first
