use Rattle.model_laws.proofs.Examples.{lookup_is_plain}
use Rattle.model_laws.proofs.lookup_is_plain.Goals as goal

pub returns : goal.returns
returns c = lookup_is_plain
