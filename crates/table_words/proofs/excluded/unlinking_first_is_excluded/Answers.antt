use Rattle.table_words.proofs.Writing.{emptied}
use Rattle.table_words.proofs.excluded.unlinking_first_is_excluded.Goals as goal

pub returns : goal.returns
returns c = λ k table key way after before early all. emptied k table key way after before early all
