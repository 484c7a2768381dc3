use Rattle.bpf_model.proofs.Prelude.{Some, sym, ap, ◌∙◌, subst, w32, to_z-of_z, SFits}
use Rattle.reference_model.specs.RunState.{run_with}
use Rattle.reference_model.specs.Acting.{KernelsAs}
use Rattle.reference_model.proofs.call.call_kernel.Goals as goal

pub returns-in-Some-ReadLock-clause-steps : goal.returns-in-Some-ReadLock-clause-steps
returns-in-Some-ReadLock-clause-steps c = λ program.
    let g : SFits w32 c.args.imm = c.ranges.imm in
    let e = simp to_z-of_z at c.from_number.ensures in
    subst (λ f. KernelsAs f (run_with program c.args.run.now) c.read_lock.result
    (run_with program c.read_lock.new.run)) (ap Some (sym c.in-Some-ReadLock.field-0-is) ∙
    sym c.in-Some-ReadLock.is ∙ e) (c.read_lock.ensures.step program)

pub returns-in-Some-ReadUnlock-clause-steps : goal.returns-in-Some-ReadUnlock-clause-steps
returns-in-Some-ReadUnlock-clause-steps c = λ program.
    let g : SFits w32 c.args.imm = c.ranges.imm in
    let e = simp to_z-of_z at c.from_number.ensures in
    subst (λ f. KernelsAs f (run_with program c.args.run.now) c.read_unlock.result
    (run_with program c.read_unlock.new.run)) (ap Some (sym c.in-Some-ReadUnlock.field-0-is) ∙
    sym c.in-Some-ReadUnlock.is ∙ e)
    (c.read_unlock.ensures.unlocks program)
