use Rattle.read_table.proofs.Safe.{spare_unlearnt}
use Rattle.read_table.proofs.rule.spare_slots_are_unlearnt.Goals as goal

pub returns : goal.returns
returns c = spare_unlearnt
