use Rattle.table_words.proofs.Whole.{values_stay}
use Rattle.table_words.proofs.laws.held_values_stay.Goals as goal

pub returns : goal.returns
returns c = values_stay
