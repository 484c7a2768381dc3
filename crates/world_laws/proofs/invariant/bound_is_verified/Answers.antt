use Rattle.world_laws.proofs.BindingOf.{bound_is_verified}
use Rattle.world_laws.proofs.invariant.bound_is_verified.Goals as goal

pub returns : goal.returns
returns c = bound_is_verified
