use Rattle.reference_model.specs.State.{schedule_of}
use Rattle.reference_model.proofs.Following.{schedules}
use Rattle.reference_model.proofs.machine.Machine.apply.Goals as goal

pub returns-clause-schedule : goal.returns-clause-schedule
returns-clause-schedule c = schedules (schedule_of c.args.self.now) (schedule_of c.answer.new.self) c.args.event
    c.answer.result c.answer.ensures.machine c.answer.ensures.lists c.answer.ensures.oldest
