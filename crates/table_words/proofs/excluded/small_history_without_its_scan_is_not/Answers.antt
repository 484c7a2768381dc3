use Rattle.table_words.proofs.Small.{too_early}
use Rattle.table_words.proofs.excluded.small_history_without_its_scan_is_not.Goals as goal

pub returns : goal.returns
returns c = too_early
