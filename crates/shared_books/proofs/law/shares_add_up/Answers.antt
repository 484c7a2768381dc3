use Rattle.shared_books.proofs.Sharing as laws
use Rattle.shared_books.proofs.law.shares_add_up.Goals as goal

pub returns : goal.returns
returns c = laws.shares_add_up
