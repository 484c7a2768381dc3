use Rattle.table_words.proofs.Walks.{meets_keys}
use Rattle.table_words.proofs.laws.walks_of_readers_meet_keys_that_stay.Goals as goal

pub returns : goal.returns
returns c = λ k late early lawful table key who way n stays each low found. meets_keys k table key who way n late early lawful stays each low found
