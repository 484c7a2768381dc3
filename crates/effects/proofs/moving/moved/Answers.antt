use Rattle.bpf_model.proofs.Prelude.{refl}
use Rattle.effects.proofs.Offsets.{moves}
use Rattle.effects.proofs.moving.moved.Goals as goal

pub returns-clause-sound : goal.returns-clause-sound
returns-clause-sound c = moves c.args.offset c.args.by c.shifted-new.result c.if-new.false
    c.in_ok-check_step.ensures.steps c.args.way c.shifted-new.ensures.sound

pub returns-clause-constant : goal.returns-clause-constant
returns-clause-constant c = λ x n o b step low. (c.shifted-new.result, refl, c.shifted-new.ensures.constant x n o b)
