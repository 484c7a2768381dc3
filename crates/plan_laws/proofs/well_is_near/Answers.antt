use Rattle.plan_laws.proofs.Nearness.{well_is_near}
use Rattle.plan_laws.proofs.well_is_near.Goals as goal

pub returns : goal.returns
returns c = well_is_near
