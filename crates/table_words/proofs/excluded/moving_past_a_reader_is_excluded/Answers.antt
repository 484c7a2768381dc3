use Rattle.table_words.proofs.Moved.{emptied_early}
use Rattle.table_words.proofs.excluded.moving_past_a_reader_is_excluded.Goals as goal

pub returns : goal.returns
returns c = emptied_early
