use Rattle.table_words.proofs.Moved.{linked_early}
use Rattle.table_words.proofs.laws.moves_link_nothing_new.Goals as goal

pub returns : goal.returns
returns c = λ k late early lawful only table key element l. linked_early k table key element late early lawful only l
