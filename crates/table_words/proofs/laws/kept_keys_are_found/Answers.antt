use Rattle.table_words.proofs.Moved.{null_refutes_kept}
use Rattle.table_words.proofs.laws.kept_keys_are_found.Goals as goal

pub returns : goal.returns
returns c = null_refutes_kept
