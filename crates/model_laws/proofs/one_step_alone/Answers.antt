use Rattle.model_laws.proofs.Exits.{one_step_alone}
use Rattle.model_laws.proofs.one_step_alone.Goals as goal

pub returns-clause-answer : goal.returns-clause-answer
returns-clause-answer c store new_store other other_store opened sections run new next a b p h g =
    (one_step_alone store new_store other other_store opened sections run new next a b p h g).0

pub returns-clause-run : goal.returns-clause-run
returns-clause-run c store new_store other other_store opened sections run new next a b p h g =
    (one_step_alone store new_store other other_store opened sections run new next a b p h g).1
