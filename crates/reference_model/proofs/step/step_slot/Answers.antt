use Rattle.bpf_model.proofs.Prelude.{◌≡◌, Some, sym, ap, ◌∙◌, subst, length, refl, slice_get, slice_get_read}
use Rattle.std.specs.Option.{option_map}
use Rattle.reference_store.specs.State.{store_of, sections_of}
use Rattle.reference_model.specs.RunState.{run_of, loaded_of, run_with, or_no_program}
use Rattle.reference_model.specs.Acting.{SlotStepsAs}
use Rattle.reference_model.proofs.BySlot.{slot-steps}
use Rattle.reference_model.proofs.step.step_slot.Goals as goal

pub returns-else-run-programs-clause-steps : goal.returns-else-run-programs-clause-steps
returns-else-run-programs-clause-steps c =
    let programs = c.args.programs.now in
    let run = c.in-Some.run' in
    let new = c.step_run.new.run in
    let x = c.index-programs-run.result in
    let there : slice_get programs run.program ≡ Some x =
    slice_get_read programs (length programs) run.program x refl c.if-run-programs.false
    c.index-programs-run.is in
    let old_is : run_of programs run ≡ run_with (loaded_of x) run = ap (λ o. run_with (or_no_program o) run) there in
    let new_is : run_of programs new ≡ run_with (loaded_of x) new =
    ap (λ p. run_with (or_no_program (slice_get programs p)) new) c.step_run.ensures.program ∙
    ap (λ o. run_with (or_no_program o) new) there in
    subst (λ o. SlotStepsAs (store_of c.args.store.now) (sections_of c.args.opened.now) o c.step_run.result
    (store_of c.step_run.new.store) (Some (run_of programs new)))
    (sym (ap (option_map (run_of programs)) c.in-Some.is))
    (slot-steps (store_of c.args.store.now) (sections_of c.args.opened.now) (run_with (loaded_of x) run)
    (run_of programs run) (run_with (loaded_of x) new) (run_of programs new) c.step_run.result
    (store_of c.step_run.new.store) old_is new_is c.step_run.ensures.steps)
