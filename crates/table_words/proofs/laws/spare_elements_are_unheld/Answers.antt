use Rattle.table_words.proofs.Holding.{spare_unheld}
use Rattle.table_words.proofs.laws.spare_elements_are_unheld.Goals as goal

pub returns : goal.returns
returns c = spare_unheld
