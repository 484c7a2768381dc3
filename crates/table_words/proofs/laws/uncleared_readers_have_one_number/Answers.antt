use Rattle.table_words.proofs.Looks.{one_number}
use Rattle.table_words.proofs.laws.uncleared_readers_have_one_number.Goals as goal

pub returns : goal.returns
returns c = one_number
