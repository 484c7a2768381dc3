use Rattle.shared_books.proofs.Replaying.{scheduled_over, machine_over, never_stuck_over, exits_over, reclaimed_over}
use Rattle.shared_books.proofs.law.replays_as_machine.Goals as goal

pub returns-clause-schedule : goal.returns-clause-schedule
returns-clause-schedule c = scheduled_over

pub returns-clause-answers : goal.returns-clause-answers
returns-clause-answers c = machine_over

pub returns-clause-never_stuck : goal.returns-clause-never_stuck
returns-clause-never_stuck c = never_stuck_over

pub returns-clause-exits : goal.returns-clause-exits
returns-clause-exits c = exits_over

pub returns-clause-reclaimed : goal.returns-clause-reclaimed
returns-clause-reclaimed c = reclaimed_over
