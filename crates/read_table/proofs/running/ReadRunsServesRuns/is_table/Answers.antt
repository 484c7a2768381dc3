use Rattle.read_table.proofs.Stretches as keeping
use Rattle.read_table.proofs.Serving.{are_steps}
use Rattle.read_table.proofs.running.ReadRunsServesRuns.is_table.Goals as goal

pub returns-clause-table : goal.returns-clause-table
returns-clause-table c = keeping.is_table c.args.words.now.shape

pub returns-clause-steps : goal.returns-clause-steps
returns-clause-steps c = are_steps c.args.words.now
