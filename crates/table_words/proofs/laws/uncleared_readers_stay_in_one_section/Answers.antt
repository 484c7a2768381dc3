use Rattle.table_words.proofs.Looks.{waits_for_one}
use Rattle.table_words.proofs.laws.uncleared_readers_stay_in_one_section.Goals as goal

pub returns : goal.returns
returns c = λ k reader element x y late between early lawful s not. waits_for_one k reader element x y between early late lawful s not
