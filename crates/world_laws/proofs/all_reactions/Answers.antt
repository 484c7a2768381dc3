use Rattle.world_laws.proofs.Worlds.{answers_scheduled, answers_machine, never_stuck, exit_in_time, reclaimed_late}
use Rattle.world_laws.proofs.all_reactions.Goals as goal

pub returns-clause-schedule : goal.returns-clause-schedule
returns-clause-schedule c = answers_scheduled

pub returns-clause-machine : goal.returns-clause-machine
returns-clause-machine c = answers_machine

pub returns-clause-never_stuck : goal.returns-clause-never_stuck
returns-clause-never_stuck c = never_stuck

pub returns-clause-exits : goal.returns-clause-exits
returns-clause-exits c = exit_in_time

pub returns-clause-reclaimed : goal.returns-clause-reclaimed
returns-clause-reclaimed c = reclaimed_late
