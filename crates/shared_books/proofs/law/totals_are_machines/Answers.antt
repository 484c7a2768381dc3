use Rattle.shared_books.proofs.CountingUnlinked.{unlinked_is_machines, reclaimed_is_machines}
use Rattle.shared_books.proofs.law.totals_are_machines.Goals as goal

pub returns-clause-unlinked : goal.returns-clause-unlinked
returns-clause-unlinked c = unlinked_is_machines

pub returns-clause-reclaimed : goal.returns-clause-reclaimed
returns-clause-reclaimed c = reclaimed_is_machines
