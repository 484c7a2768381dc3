use Rattle.bpf_model.proofs.Prelude.{refl, None, ◌∙◌}
use Rattle.model_laws.proofs.Prelude.{LoadNumber}
use Rattle.register_kinds.proofs.Prelude.{state_of}
use Rattle.state_steps.proofs.Serving.{serves_none}
use Rattle.state_steps.proofs.Stepping.{quiet_step}
use Rattle.state_steps.proofs.Keeping.{set_keeps}
use Rattle.state_steps.proofs.compute.load_number_step.Goals as goal

pub returns : goal.returns
returns c = λ shapes ctx_len top below.
    let a = c.args.state.now in
    let b = c.load_number.new.state in
    quiet_step (LoadNumber c.args.dst c.args.number) shapes ctx_len top a b c.single.result c.single.ensures
    (record { no_base = refl; no_test = λ r x. x; no_branch = λ x. x.1 refl })
    (c.in_ok-load_number.ensures.sound shapes ctx_len) (c.load_number.ensures.below top below)
    (λ ready.
    let n = c.in_ok-load_number.ensures.numbers ready.keeps_frame in
    set_keeps (LoadNumber c.args.dst c.args.number) c.args.dst n.number (state_of a) (state_of b)
    (record { writes = λ r w. w; no_bytes = λ k w. w }) ready.keeps_frame n.alike)
    (serves_none shapes (LoadNumber c.args.dst c.args.number) refl (state_of a) (state_of b) None)
    c.in_ok-load_number.ensures.floor
    (λ r s n e. c.in_ok-load_number.ensures.others r n ∙ e)
    (λ h. absurd h)
