use Rattle.table_words.proofs.Prelude.{refl}
use Rattle.table_words.specs.Sip.{begun}
use Rattle.table_words.proofs.sip.begin.Goals as goal

pub returns : goal.returns
unfolding begun
returns c = refl
