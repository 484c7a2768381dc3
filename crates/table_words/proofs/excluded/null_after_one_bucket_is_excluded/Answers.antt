use Rattle.table_words.proofs.Writing.{refuted_looked}
use Rattle.table_words.proofs.excluded.null_after_one_bucket_is_excluded.Goals as goal

pub returns : goal.returns
returns c = λ k table key ms way here not null. not (refuted_looked k table key way ms (null way here))
