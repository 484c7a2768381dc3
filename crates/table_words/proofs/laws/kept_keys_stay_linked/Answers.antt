use Rattle.table_words.proofs.Moved.{kept_linked}
use Rattle.table_words.proofs.laws.kept_keys_stay_linked.Goals as goal

pub returns : goal.returns
returns c = λ k late early lawful table key l o. kept_linked k table key late early lawful l o
