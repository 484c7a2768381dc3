use Rattle.effects.proofs.Branches.{jump_long_transfers}
use Rattle.effects.proofs.exits.jump_long_transfers.Goals as goal

pub returns : goal.returns
returns c = jump_long_transfers
