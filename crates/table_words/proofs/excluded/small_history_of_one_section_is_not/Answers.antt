use Rattle.table_words.proofs.Small.{one_number_too_early}
use Rattle.table_words.proofs.excluded.small_history_of_one_section_is_not.Goals as goal

pub returns : goal.returns
returns c = one_number_too_early
