use Rattle.world_laws.proofs.OneMore.{tracked_with_one_more, machine_with_one_more}
use Rattle.world_laws.proofs.adding.tracked_with_one_more.Goals as goal

pub returns-clause-schedule : goal.returns-clause-schedule
returns-clause-schedule c = tracked_with_one_more

pub returns-clause-machine : goal.returns-clause-machine
returns-clause-machine c = machine_with_one_more
