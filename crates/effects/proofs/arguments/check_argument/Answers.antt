use Rattle.bpf_model.proofs.Prelude.{sym, ap, subst}
use Rattle.effects.proofs.Prelude.{IsArgument}
use Rattle.model_laws.proofs.Prelude.{ArgumentKind}
use Rattle.register_kinds.proofs.Prelude.{kind_of, state_of}
use Rattle.effects.proofs.arguments.check_argument.Goals as goal

pub returns-in_ok-_numbers-in-AnyNumber-clause-argument : goal.returns-in_ok-_numbers-in-AnyNumber-clause-argument
returns-in_ok-_numbers-in-AnyNumber-clause-argument c =
    subst (λ (kind : ArgumentKind). IsArgument c.args.shapes.now (state_of c.args.state.now) c.args.shape kind
    c.args.r) (sym c.in-AnyNumber.is)
    (c.in_ok-_numbers-in-AnyNumber._numbers, ap kind_of c.in_ok-_numbers-in-AnyNumber.ensures.value)
