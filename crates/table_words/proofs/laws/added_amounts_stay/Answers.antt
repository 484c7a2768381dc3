use Rattle.table_words.proofs.Added.{add_up}
use Rattle.table_words.proofs.laws.added_amounts_stay.Goals as goal

pub returns : goal.returns
returns c k late early lawful element place total = add_up k element place total late early lawful
