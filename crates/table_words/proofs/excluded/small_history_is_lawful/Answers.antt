use Rattle.table_words.proofs.Small.{reused_lawful}
use Rattle.table_words.proofs.excluded.small_history_is_lawful.Goals as goal

pub returns : goal.returns
returns c = reused_lawful
