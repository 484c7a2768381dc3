use Rattle.table_words.proofs.Moments.{stays_found}
use Rattle.table_words.proofs.laws.keys_that_stay_are_found.Goals as goal

pub returns : goal.returns
returns c = λ k late early lawful table key who way only null all. stays_found k table key who way late early lawful only null all
