use Rattle.shared_books.proofs.Replaying as laws
use Rattle.shared_books.proofs.law.replays_push.Goals as goal

pub returns : goal.returns
returns c = laws.replays_push
