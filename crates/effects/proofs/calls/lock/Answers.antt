use Rattle.bpf_model.proofs.Prelude.{arith}
use Rattle.register_kinds.proofs.Prelude.{state_of}
use Rattle.effects.proofs.CallLaws.{lock_sound, lock_others}
use Rattle.effects.proofs.calls.lock.Goals as goal

pub returns-clause-sound : goal.returns-clause-sound
returns-clause-sound c = lock_sound c.args.state.now c.enter_section.new.self
    (let few = c.if-state-ge-MAX_DEPTH.false in omega (arith, few)) c.enter_section.ensures.alike

pub returns-clause-others : goal.returns-clause-others
returns-clause-others c = lock_others (state_of c.args.state.now) (state_of c.enter_section.new.self) c.enter_section.ensures.alike
