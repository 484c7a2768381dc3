use Rattle.bpf_model.proofs.Prelude.{arith, refl}
use Rattle.plan_laws.proofs.Prelude.{Num}
use Rattle.register_kinds.proofs.Prelude.{state_of}
use Rattle.effects.proofs.Combining.{number_sound}
use Rattle.effects.proofs.arithmetic.load_number.Goals as goal
use Rattle.register_kinds.proofs.Setting.{set-there, set-elsewhere}

pub returns-clause-sound : goal.returns-clause-sound
returns-clause-sound c = number_sound c.args.dst c.args.number c.constant.result c.args.state.now c.set.new.self
    (omega (arith, c.ranges.number)) c.constant.ensures.sound c.in_ok-check_writable.ensures.value c.set.ensures.alike

pub returns-clause-floor : goal.returns-clause-floor
returns-clause-floor c = (
  c.constant.result,
  set-there c.args.dst c.args.dst (Num c.constant.result)
      (state_of c.args.state.now) (state_of c.set.new.self) c.set.ensures.alike refl,
  c.constant.ensures.exact,
)

pub returns-clause-others : goal.returns-clause-others
returns-clause-others c = λ r ne. set-elsewhere c.args.dst r (Num c.constant.result) (state_of c.args.state.now)
    (state_of c.set.new.self) c.set.ensures.alike ne
