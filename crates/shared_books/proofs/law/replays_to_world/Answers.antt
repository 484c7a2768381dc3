use Rattle.shared_books.proofs.Replaying as laws
use Rattle.shared_books.proofs.law.replays_to_world.Goals as goal

pub returns : goal.returns
returns c = laws.replays_to_world
