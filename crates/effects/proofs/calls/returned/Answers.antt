use Rattle.bpf_model.proofs.Prelude.{refl, sym, subst}
use Rattle.effects.proofs.Prelude.{IsLeft}
use Rattle.model_laws.proofs.Prelude.{ResultKind}
use Rattle.register_kinds.specs.declared.kind.RegKind.TheVariants.{Num}
use Rattle.effects.proofs.calls.returned.Goals as goal

pub returns-in-Integer-clause-left : goal.returns-in-Integer-clause-left
returns-in-Integer-clause-left c = subst (λ (kind : ResultKind).
    IsLeft kind c.args.map c.args.ids.now.next (Num c.unknown.result)) (sym c.in-Integer.is)
    (c.unknown.result, refl, c.unknown.ensures.sound)
