use Rattle.model_laws.proofs.Alone.{others_change_nothing}
use Rattle.model_laws.proofs.others_change_nothing.Goals as goal

pub returns-clause-store : goal.returns-clause-store
returns-clause-store c store new_store opened run new answer p h = (others_change_nothing store new_store opened run new answer p h).0

pub returns-clause-anywhere : goal.returns-clause-anywhere
returns-clause-anywhere c store new_store other opened sections run new answer p h =
    (others_change_nothing store new_store opened run new answer p h).1 other sections
