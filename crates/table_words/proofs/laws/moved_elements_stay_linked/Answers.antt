use Rattle.table_words.proofs.Moved.{stays_linked}
use Rattle.table_words.proofs.laws.moved_elements_stay_linked.Goals as goal

pub returns : goal.returns
returns c = λ k late early lawful only table key element l. stays_linked k table key element late early lawful only l
