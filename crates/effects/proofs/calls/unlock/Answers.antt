use Rattle.bpf_model.proofs.Prelude.{arith}
use Rattle.register_kinds.proofs.Prelude.{state_of}
use Rattle.effects.proofs.CallLaws.{unlock_sound, unlock_others}
use Rattle.effects.proofs.calls.unlock.Goals as goal

pub returns-clause-sound : goal.returns-clause-sound
returns-clause-sound c = unlock_sound c.args.state.now c.leave_section.new.self c.args.shapes.now
    (let some = c.if-state-eq0.false in omega (arith, some)) c.leave_section.ensures.alike

pub returns-clause-others : goal.returns-clause-others
returns-clause-others c = unlock_others c.args.shapes.now (state_of c.args.state.now) (state_of c.leave_section.new.self) c.leave_section.ensures.alike
