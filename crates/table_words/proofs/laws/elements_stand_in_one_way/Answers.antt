use Rattle.table_words.proofs.Standing.{one_or_moved}
use Rattle.table_words.proofs.laws.elements_stand_in_one_way.Goals as goal

pub returns : goal.returns
returns c = one_or_moved
