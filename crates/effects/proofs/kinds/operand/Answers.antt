use Rattle.bpf_model.proofs.Prelude.{rules, ◌≡◌, refl, sym, ap, subst, ◌∙◌, SFits, to_z-of_z, immediate}
use Rattle.model_laws.proofs.Prelude.{Register, Immediate, Operand}
use Rattle.plan_laws.proofs.Prelude.{IsNumberOperand}
use Rattle.register_kinds.proofs.Prelude.{kind_in, state_of}
use Rattle.scalar_domain.proofs.Prelude.{IsConstant}
use Rattle.std.proofs.Common.{w32}
use Rattle.effects.proofs.Numbers.{held_number, same_immediate}
use Rattle.effects.proofs.kinds.operand.Goals as goal

pub returns-in-Register-clause-numbers : goal.returns-in-Register-clause-numbers
returns-in-Register-clause-numbers c = λ n.
    let p = subst (λ (o : Operand). IsNumberOperand (state_of c.args.state.now) o) c.in-Register.is n in
    (p.0, c.held.ensures.result ∙ held_number (kind_in c.args.state.now.regs c.in-Register.r) p.0 p.1)

pub returns-in-Immediate-clause-numbers : goal.returns-in-Immediate-clause-numbers
returns-in-Immediate-clause-numbers c = λ n. (c.constant.result, refl)

pub returns-in-Immediate-clause-operand : goal.returns-in-Immediate-clause-operand
returns-in-Immediate-clause-operand c =
    let f : SFits w32 c.in-Immediate.imm = search rules in
    let value = simp to_z-of_z at c.immediate.ensures in record {
      register = λ s e w. absurd (let g : Immediate c.in-Immediate.imm ≡ Register s = sym c.in-Immediate.is ∙ e in cc);
      number = λ imm e. (
        c.constant.result,
        refl,
        subst (IsConstant c.constant.result)
            (value ∙ ap immediate (same_immediate c.in-Immediate.imm imm (sym c.in-Immediate.is ∙ e)))
            c.constant.ensures.exact,
      );
    }
