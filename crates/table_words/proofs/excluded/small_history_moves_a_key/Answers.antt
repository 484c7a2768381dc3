use Rattle.table_words.proofs.Small.{moved_lawful, moved_back_lawful}
use Rattle.table_words.proofs.excluded.small_history_moves_a_key.Goals as goal

pub returns-clause-moved : goal.returns-clause-moved
returns-clause-moved c = moved_lawful

pub returns-clause-back : goal.returns-clause-back
returns-clause-back c = moved_back_lawful
