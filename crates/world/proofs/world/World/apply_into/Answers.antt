use Rattle.bpf_model.proofs.Prelude.{refl}
use Rattle.world.proofs.Answering.{reacts, stays_world, schedule_of, machine_of, never_stuck_of, exits_of, reclaimed_of}
use Rattle.world.proofs.world.World.apply_into.Goals as goal

pub invariant_of-self : goal.invariant_of-self
invariant_of-self c = stays_world (reacts refl c.self.invariant c.is_real.ensures c.react.ensures.answer c.react.ensures.new)

pub returns-clause-schedule : goal.returns-clause-schedule
returns-clause-schedule c =
    schedule_of (reacts c.self.view_is c.self.invariant c.is_real.ensures c.react.ensures.answer c.react.ensures.new)

pub returns-clause-machine : goal.returns-clause-machine
returns-clause-machine c =
    machine_of (reacts c.self.view_is c.self.invariant c.is_real.ensures c.react.ensures.answer c.react.ensures.new)

pub returns-clause-never_stuck : goal.returns-clause-never_stuck
returns-clause-never_stuck c =
    never_stuck_of (reacts c.self.view_is c.self.invariant c.is_real.ensures c.react.ensures.answer c.react.ensures.new)

pub returns-clause-exits : goal.returns-clause-exits
returns-clause-exits c =
    exits_of (reacts c.self.view_is c.self.invariant c.is_real.ensures c.react.ensures.answer c.react.ensures.new)

pub returns-clause-reclaimed : goal.returns-clause-reclaimed
returns-clause-reclaimed c =
    reclaimed_of (reacts c.self.view_is c.self.invariant c.is_real.ensures c.react.ensures.answer c.react.ensures.new)
