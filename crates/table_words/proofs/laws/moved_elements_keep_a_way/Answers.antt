use Rattle.table_words.proofs.Moved.{stays_somewhere}
use Rattle.table_words.proofs.laws.moved_elements_keep_a_way.Goals as goal

pub returns : goal.returns
returns c = λ k late early lawful table key who element reader one s t. stays_somewhere k table key element who reader late early lawful s one t
