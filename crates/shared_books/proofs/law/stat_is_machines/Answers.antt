use Rattle.shared_books.proofs.Stats.{stat_is_machines}
use Rattle.shared_books.proofs.law.stat_is_machines.Goals as goal

pub returns : goal.returns
returns c = stat_is_machines
