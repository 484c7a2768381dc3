use Rattle.table_words.proofs.Writing.{skipped}
use Rattle.table_words.proofs.excluded.skipping_a_reader_is_excluded.Goals as goal

pub returns : goal.returns
returns c = λ readers reader element way word since before some within names unseen spare.
    skipped readers reader element way word since before some within unseen names spare
