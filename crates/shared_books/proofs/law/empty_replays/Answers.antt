use Rattle.shared_books.proofs.Replaying as laws
use Rattle.shared_books.proofs.law.empty_replays.Goals as goal

pub returns : goal.returns
returns c = laws.empty_replays
