use Rattle.world_laws.proofs.Local.{asks_nothing, asks_for_element}
use Rattle.world_laws.proofs.asks_exactly.Goals as goal

pub returns-clause-nothing : goal.returns-clause-nothing
returns-clause-nothing c = asks_nothing

pub returns-clause-element : goal.returns-clause-element
returns-clause-element c = asks_for_element
