use Rattle.table_words.proofs.Looks.{moved_clears}
use Rattle.table_words.proofs.laws.two_looks_clear_who_moved.Goals as goal

pub returns : goal.returns
returns c = λ k reader element x y late between early lawful s moved low. moved_clears k reader element x y between early late lawful s moved low
