use Rattle.shared_books.proofs.Replaying as laws
use Rattle.shared_books.proofs.law.run_all_replays.Goals as goal

pub returns : goal.returns
returns c = laws.run_all_replays
