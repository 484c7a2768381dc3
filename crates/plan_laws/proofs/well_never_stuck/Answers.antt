use Rattle.plan_laws.proofs.Reaching.{well_never_stuck}
use Rattle.plan_laws.proofs.well_never_stuck.Goals as goal

pub returns : goal.returns
returns c = well_never_stuck
