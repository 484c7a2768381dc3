use Rattle.table_words.proofs.Moved.{doubled_late}
use Rattle.table_words.proofs.excluded.doubling_an_empty_way_is_excluded.Goals as goal

pub returns : goal.returns
returns c = doubled_late
