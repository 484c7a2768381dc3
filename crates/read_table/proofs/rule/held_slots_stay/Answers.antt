use Rattle.read_table.proofs.Safe.{same_generation}
use Rattle.read_table.proofs.rule.held_slots_stay.Goals as goal

pub returns : goal.returns
returns c = same_generation
