use Rattle.table_words.proofs.Small.{moved_past_reader}
use Rattle.table_words.proofs.excluded.small_history_moved_too_early_is_not.Goals as goal

pub returns : goal.returns
returns c = moved_past_reader
