use Rattle.table_words.proofs.Writing.{only_replaced}
use Rattle.table_words.proofs.laws.replaced_keys_stay.Goals as goal

pub returns : goal.returns
returns c = λ k late early lawful table key way l r. only_replaced k table key way late early lawful l r
