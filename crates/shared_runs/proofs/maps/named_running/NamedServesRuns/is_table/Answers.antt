use Rattle.shared_runs.proofs.Keeping.{is_named_table}
use Rattle.shared_runs.proofs.MapServing.{are_named_steps}
use Rattle.shared_runs.proofs.maps.named_running.NamedServesRuns.is_table.Goals as goal

pub returns-clause-table : goal.returns-clause-table
returns-clause-table c = is_named_table c.args.words.now.placed.table.now.shape c.args.words.now.maps.now c.args.words.now.placed.first

pub returns-clause-steps : goal.returns-clause-steps
returns-clause-steps c = are_named_steps c.args.words.now.placed.table.now c.args.words.now.maps.now c.args.words.now.placed.first
