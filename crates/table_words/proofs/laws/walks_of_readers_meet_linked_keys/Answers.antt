use Rattle.table_words.proofs.Walks.{meets_linked}
use Rattle.table_words.proofs.laws.walks_of_readers_meet_linked_keys.Goals as goal

pub returns : goal.returns
returns c = λ k late early lawful who way element stays found. meets_linked k who way element late early lawful stays found
