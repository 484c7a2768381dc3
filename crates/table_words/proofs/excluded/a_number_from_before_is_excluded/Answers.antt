use Rattle.table_words.proofs.Writing.{one_odd_number}
use Rattle.table_words.proofs.excluded.a_number_from_before_is_excluded.Goals as goal

pub returns : goal.returns
returns c = λ readers reader element way word found before some within odd names spare.
    one_odd_number readers reader element way word found before some within odd names spare
