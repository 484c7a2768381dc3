use Rattle.plan_laws.proofs.Example.{lookup_is_verified}
use Rattle.plan_laws.proofs.lookup_is_verified.Goals as goal

pub returns : goal.returns
returns c = lookup_is_verified
