use Rattle.bpf_model.proofs.Prelude.{sym, subst, IfOk}
use Rattle.model_laws.proofs.Prelude.{Done}
use Rattle.reference_model.specs.State.{machine_of, schedule_of}
use Rattle.reference_model.specs.Following.{DoesAs, FollowsLists}
use Rattle.reference_model.proofs.Following.{advance-follows}
use Rattle.reference_model.proofs.machine.Machine.advance_or_reap.Goals as goal

pub returns-in_ok-advance-in-Advance-clause-lists : goal.returns-in_ok-advance-in-Advance-clause-lists
returns-in_ok-advance-in-Advance-clause-lists c =
    let s = schedule_of c.args.self.now in
    let new = schedule_of c.advance.new.self in
    subst (λ e. FollowsLists s e Done new) (sym c.in-Advance.is)
    (advance-follows s new c.in_ok-advance-in-Advance.ensures.machine c.in_ok-advance-in-Advance.ensures.lists)

pub returns-in-Reap-clause-machine : goal.returns-in-Reap-clause-machine
returns-in-Reap-clause-machine c = subst (λ e. DoesAs (machine_of c.args.self.now) e c.reap.result
    (machine_of c.reap.new.self)) (sym c.in-Reap.is) c.reap.ensures.machine

pub returns-in-Reap-clause-lists : goal.returns-in-Reap-clause-lists
returns-in-Reap-clause-lists c = subst (λ e. IfOk c.reap.result
    (λ answer. FollowsLists (schedule_of c.args.self.now) e answer (schedule_of c.reap.new.self))) (sym c.in-Reap.is)
    c.reap.ensures.lists
