use Rattle.table_words.proofs.Moments.{hit_held}
use Rattle.table_words.proofs.laws.hits_are_held.Goals as goal

pub returns : goal.returns
returns c = hit_held
