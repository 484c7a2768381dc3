use Rattle.table_words.proofs.Owning.{own_word}
use Rattle.table_words.proofs.laws.own_words_stay.Goals as goal

pub returns : goal.returns
returns c = own_word
