use Rattle.read_table.proofs.Finding.{stays}
use Rattle.read_table.proofs.rule.linked_slots_keep_their_keys.Goals as goal

pub returns : goal.returns
returns c = stays
