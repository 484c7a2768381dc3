use Rattle.bpf_model.proofs.Prelude.{rules, ◌≡◌, Some, sym, ◌∙◌, subst, same_Some, insn_at, InsnStep}
use Rattle.model_laws.proofs.Prelude.{Insn}
use Rattle.reference_store.specs.State.{store_of, sections_of}
use Rattle.reference_store.proofs.Telling.{tells-map}
use Rattle.reference_model.specs.RunState.{loaded_of, run_with}
use Rattle.reference_model.proofs.step.step_run.Goals as goal

pub returns-in-Some-clause-steps : goal.returns-in-Some-clause-steps
returns-in-Some-clause-steps c =
    let s = store_of c.args.store.now in
    let opened = sections_of c.args.opened.now in
    let run = run_with (loaded_of c.args.program.now) c.args.run.now in
    let i : Insn = c.in-Some.insn.now in
    let at : insn_at run.program.code run.state.place ≡ Some i = search rules in
    tells-map _ _ _ _ c.step_insn.result (λ a h. (i, at, h))
    (λ none a t q g. none a t q (subst (λ j. InsnStep j s opened run a t q) (same_Some g.0 i (sym g.1 ∙ at)) g.2))
    c.step_insn.ensures.steps
