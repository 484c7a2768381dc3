use Rattle.bpf_model.proofs.Prelude.{subst, ap, ◌∙◌, IfOk-weaker}
use Rattle.effects.proofs.Prelude.{RegKind, HasValue}
use Rattle.register_kinds.proofs.Prelude.{kind_of, state_of}
use Rattle.effects.proofs.forks.sides.Goals as goal

pub returns-clause-right : goal.returns-clause-right
returns-clause-right c = IfOk-weaker c.compared.result _ _
    (λ p e. subst (λ (k : RegKind). HasValue (state_of c.args.state.now) c.args.src.now (kind_of k)) e
    c.in_ok-y.ensures.value) c.compared.ensures.right

pub returns-clause-known : goal.returns-clause-known
returns-clause-known c = IfOk-weaker c.compared.result _ _ (λ p e. c.in_ok-y.ensures.kind ∙ ap kind_of e) c.compared.ensures.right
