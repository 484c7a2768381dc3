use Rattle.world_laws.proofs.Worlds.{answers_as_scheduled, answers_as_machine, never_stuck_once, exits_once, reclaimed_once}
use Rattle.world_laws.proofs.one_reaction.Goals as goal

pub returns-clause-schedule : goal.returns-clause-schedule
returns-clause-schedule c = answers_as_scheduled

pub returns-clause-machine : goal.returns-clause-machine
returns-clause-machine c = answers_as_machine

pub returns-clause-never_stuck : goal.returns-clause-never_stuck
returns-clause-never_stuck c = never_stuck_once

pub returns-clause-exits : goal.returns-clause-exits
returns-clause-exits c = exits_once

pub returns-clause-reclaimed : goal.returns-clause-reclaimed
returns-clause-reclaimed c = reclaimed_once
