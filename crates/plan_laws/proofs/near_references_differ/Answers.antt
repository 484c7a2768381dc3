use Rattle.plan_laws.proofs.Nearness.{near_references_differ}
use Rattle.plan_laws.proofs.near_references_differ.Goals as goal

pub returns : goal.returns
returns c = near_references_differ
