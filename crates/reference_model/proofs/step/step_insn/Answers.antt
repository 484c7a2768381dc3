use Rattle.bpf_model.proofs.Prelude.{rules, Some, sym, ap, ◌∙◌, subst, w32, to_z-of_z, SFits}
use Rattle.model_laws.proofs.Prelude.{Call}
use Rattle.bpf_model.specs.declared.insn.CallKind.TheVariants as kinds
use Rattle.reference_store.specs.State.{store_of, sections_of}
use Rattle.reference_model.specs.RunState.{run_with, loaded_of}
use Rattle.reference_model.specs.Acting.{InsnStepsAs}
use Rattle.reference_model.proofs.Acting.{alone-steps, of-kinds, kernel-steps, call-is, call-pair}
use Rattle.reference_model.proofs.step.step_insn.Goals as goal

pub returns-in-Some-Kernel-default-clause-steps : goal.returns-in-Some-Kernel-default-clause-steps
returns-in-Some-Kernel-default-clause-steps c =
    let s = store_of c.args.store.now in
    let run = run_with (loaded_of c.args.program.now) c.args.run.now in
    let new = run_with (loaded_of c.args.program.now) c.call_kernel.new.run in
    let imm = c.in-Some-Kernel-default.imm in
    let g : SFits w32 imm = search rules in
    let steps = simp to_z-of_z at c.call_kernel.ensures.steps in
    let is = call-is c.args.insn.now kinds.Kernel imm (sym c.call_of.ensures ∙ c.in-Some-Kernel-default.is ∙
    ap (λ k. Some (call-pair k imm)) c.in-Some-Kernel-default.field-0-0-is) in
    subst (λ i. InsnStepsAs i s (sections_of c.args.opened.now) run c.call_kernel.result s new) (sym is)
    (kernel-steps imm s (sections_of c.args.opened.now) run c.call_kernel.result new
    (steps (loaded_of c.args.program.now)))

pub returns-in-Some-Helper-default-clause-steps : goal.returns-in-Some-Helper-default-clause-steps
returns-in-Some-Helper-default-clause-steps c =
    let run = run_with (loaded_of c.args.program.now) c.args.run.now in
    let new = run_with (loaded_of c.args.program.now) c.call_helper.new.run in
    let imm = c.in-Some-Helper-default.imm in
    let g : SFits w32 imm = search rules in
    let steps = simp to_z-of_z at c.call_helper.ensures.steps in
    let is = call-is c.args.insn.now kinds.Helper imm (sym c.call_of.ensures ∙ c.in-Some-Helper-default.is ∙
    ap (λ k. Some (call-pair k imm)) c.in-Some-Helper-default.field-0-0-is) in
    subst (λ i. InsnStepsAs i (store_of c.args.store.now) (sections_of c.args.opened.now) run c.call_helper.result
    (store_of c.call_helper.new.store) new) (sym is)
    (of-kinds (Call kinds.Helper imm) (store_of c.args.store.now) (sections_of c.args.opened.now) run
    c.call_helper.result (store_of c.call_helper.new.store) new steps)

pub returns-in-None-clause-steps : goal.returns-in-None-clause-steps
returns-in-None-clause-steps c = alone-steps c.args.insn.now (store_of c.args.store.now)
    (sections_of c.args.opened.now) (run_with (loaded_of c.args.program.now) c.args.run.now) c.step_alone.result
    (store_of c.step_alone.new.store)
    (run_with (loaded_of c.args.program.now) c.step_alone.new.run) (sym c.call_of.ensures ∙ c.in-None.is) c.step_alone.ensures.steps
