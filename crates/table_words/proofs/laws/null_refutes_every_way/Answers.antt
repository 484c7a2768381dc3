use Rattle.table_words.proofs.Moments.{null_refutes}
use Rattle.table_words.proofs.laws.null_refutes_every_way.Goals as goal

pub returns : goal.returns
returns c = λ k late early lawful table key who only null way. null_refutes k table key who way late early lawful only null
