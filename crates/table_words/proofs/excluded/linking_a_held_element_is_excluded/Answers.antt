use Rattle.table_words.proofs.Writing.{put_unheld}
use Rattle.table_words.proofs.excluded.linking_a_held_element_is_excluded.Goals as goal

pub returns : goal.returns
returns c = λ k es lawful who element way word h names may. put_unheld k es lawful who element way word may names h
