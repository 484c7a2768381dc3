use Rattle.world.proofs.Running.{running, flagged, can_be_served}
use Rattle.world.proofs.serving_laws.running_can_be_served.Goals as goal

pub returns-clause-running : goal.returns-clause-running
returns-clause-running c = running

pub returns-clause-flagged : goal.returns-clause-flagged
returns-clause-flagged c = flagged

pub returns-clause-served : goal.returns-clause-served
returns-clause-served c = can_be_served
