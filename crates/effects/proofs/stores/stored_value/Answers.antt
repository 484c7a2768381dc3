use Rattle.bpf_model.proofs.Prelude.{subst, sym, ap, ◌∙◌}
use Rattle.model_laws.proofs.Prelude.{Operand}
use Rattle.plan_laws.proofs.Prelude.{IsNumberOperand}
use Rattle.register_kinds.proofs.Prelude.{kind_of, state_of}
use Rattle.effects.proofs.stores.stored_value.Goals as goal

pub returns-in-Num-clause-number : goal.returns-in-Num-clause-number
returns-in-Num-clause-number c = λ _. subst (λ (o : Operand). IsNumberOperand (state_of c.args.state.now) o) (sym c.in-Register.is)
    (c.in-Num.field-0, ap kind_of (c.in_ok-kind-in-Register.ensures.value ∙ c.in-Num.is))
