use Rattle.bpf_model.proofs.Prelude.{refl, None}
use Rattle.model_laws.proofs.Prelude.{Jump}
use Rattle.register_kinds.proofs.Prelude.{state_of}
use Rattle.state_steps.proofs.Keeping.{same_keeps}
use Rattle.state_steps.proofs.Serving.{serves_none}
use Rattle.state_steps.proofs.Stepping.{quiet_step}
use Rattle.state_steps.proofs.control.jump_step.Goals as goal

pub returns : goal.returns
returns c = λ offset shapes ctx_len top a below.
    quiet_step (Jump offset) shapes ctx_len top a a c.single.result c.single.ensures (record { no_base = refl; no_test = λ r x. x; no_branch = λ x. cc })
    (c.jump_transfers.ensures offset shapes ctx_len (state_of a)) below (λ ready. same_keeps (Jump offset) (state_of a) (λ r x. x) (λ k x. x))
    (serves_none shapes (Jump offset) refl (state_of a) (state_of a) None)
    tt
    (λ r s n e. e)
    (λ h. absurd h)
