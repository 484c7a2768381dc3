use Rattle.table_words.proofs.Holding.{finds_stored}
use Rattle.table_words.proofs.laws.loads_find_what_was_stored.Goals as goal

pub returns : goal.returns
returns c = finds_stored
