use Rattle.table_words.proofs.Writing.{filled_unheld}
use Rattle.table_words.proofs.excluded.filling_a_held_element_is_excluded.Goals as goal

pub returns : goal.returns
returns c = λ k es lawful who element place word h may. filled_unheld k es lawful who element place word may h
