use Rattle.table_words.proofs.Owning.{others_place}
use Rattle.table_words.proofs.excluded.storing_at_anothers_place_is_excluded.Goals as goal

pub returns : goal.returns
returns c = others_place
