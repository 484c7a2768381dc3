use Rattle.table_words.proofs.Once.{stays_once}
use Rattle.table_words.proofs.laws.keys_stay_once.Goals as goal

pub returns : goal.returns
returns c = stays_once
