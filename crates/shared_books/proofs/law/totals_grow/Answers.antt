use Rattle.shared_books.proofs.Growing.{unlinked_grows, reclaimed_grows}
use Rattle.shared_books.proofs.law.totals_grow.Goals as goal

pub returns-clause-unlinked : goal.returns-clause-unlinked
returns-clause-unlinked c = unlinked_grows

pub returns-clause-reclaimed : goal.returns-clause-reclaimed
returns-clause-reclaimed c = reclaimed_grows
