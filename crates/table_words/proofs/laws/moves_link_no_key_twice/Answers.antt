use Rattle.table_words.proofs.Moved.{moves_once}
use Rattle.table_words.proofs.laws.moves_link_no_key_twice.Goals as goal

pub returns : goal.returns
returns c = moves_once
