use Rattle.effects.proofs.Branches.{jump_transfers}
use Rattle.effects.proofs.exits.jump_transfers.Goals as goal

pub returns : goal.returns
returns c = jump_transfers
