use Rattle.bpf_model.proofs.Prelude.{rules, refl, subst}
use Rattle.scalar_domain.proofs.Prelude.{IsConstant}
use Rattle.effects.proofs.moving.raised.Goals as goal

pub returns-clause-constant : goal.returns-clause-constant
returns-clause-constant c = λ m e l. (c.constant.result, refl, subst (IsConstant c.constant.result) (search (rules, e, l)) c.constant.ensures.exact)
