use Rattle.table_words.proofs.Moved.{null_refutes_elements}
use Rattle.table_words.proofs.laws.null_refutes_every_element.Goals as goal

pub returns : goal.returns
returns c = null_refutes_elements
