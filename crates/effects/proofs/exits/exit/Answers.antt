use Rattle.bpf_model.proofs.Prelude.{refl}
use Rattle.effects.proofs.Branches.{exit_sound}
use Rattle.effects.proofs.exits.exit.Goals as goal

pub returns-in_ok-check_outside-in-Num : goal.returns-in_ok-check_outside-in-Num
returns-in_ok-check_outside-in-Num c = record {
  sound =
      exit_sound c.args.state.now c.in_ok-held.field-0 c.in-Num.field-0 c.in_ok-held.ensures.value c.in-Num.is
      c.in_ok-check_outside-in-Num.ensures.outside;
  accepts = λ n o. refl;
}
