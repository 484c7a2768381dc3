use Rattle.table_words.proofs.Moments.{held_stays}
use Rattle.table_words.proofs.laws.held_elements_stay.Goals as goal

pub returns : goal.returns
returns c = held_stays
