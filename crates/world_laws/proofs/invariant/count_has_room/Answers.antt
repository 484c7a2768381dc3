use Rattle.world_laws.proofs.Counts.{count_has_room}
use Rattle.world_laws.proofs.invariant.count_has_room.Goals as goal

pub returns : goal.returns
returns c = count_has_room
