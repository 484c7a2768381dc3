use Rattle.table_words.proofs.Small.{beside_lawful}
use Rattle.table_words.proofs.excluded.small_history_of_two_sections_is_lawful.Goals as goal

pub returns : goal.returns
returns c = beside_lawful
