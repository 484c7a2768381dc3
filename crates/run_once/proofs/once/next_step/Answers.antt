use Rattle.bpf_model.proofs.Prelude.{rules, ◌≡◌, ℕ, List, ◌++◌, Bool, IfOk, subst, sym, AnswersAsMachine, Tracks}
use Rattle.model_laws.proofs.Prelude.{Step, Insn}
use Rattle.run_once.specs.Told.{HasNext, IsStepTold}
use Rattle.run_once.proofs.once.next_step.Goals as goal

pub returns-then-tells-clause-told : goal.returns-then-tells-clause-told
returns-then-tells-clause-told c =
    subst
    (λ (tells : Bool). IfOk c.tell_step.result (λ a. (late : List ℕ) × (c.tell_step.new.text.items ≡ c.args.text.now.items ++ late)
    × ((slot : ℕ) (insn : Insn) → HasNext c.args.world.now slot insn → IsStepTold tells slot insn late)))
    (sym c.if-tells.true) c.tell_step.ensures.told

pub returns-clause-machine : goal.returns-clause-machine
returns-clause-machine c =
    let zero : c.new.result ≡ 0 = search rules in
    subst (λ r. AnswersAsMachine Tracks c.args.world.now (Step r) c.apply.result c.apply.new.self) zero c.apply.ensures.machine
