use Rattle.plan_laws.proofs.Example.{lookup_never_stuck}
use Rattle.plan_laws.proofs.lookup_never_stuck.Goals as goal

pub returns : goal.returns
returns c = lookup_never_stuck
