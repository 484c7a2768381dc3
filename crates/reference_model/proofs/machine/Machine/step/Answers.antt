use Rattle.bpf_model.proofs.Prelude.{rules, ◌≡◌, ◌<◌, arith, length, Some, sym, ap, ◌∙◌, subst, vec_len, refl, slice_get, slice_set, with_runs, with_store}
use Rattle.bpf_model.proofs.Prelude.{open_sections, slice_get_read, map-set, get-map}
use Rattle.std.specs.Option.{option_map}
use Rattle.bpf_model.specs.declared.event.Event.TheVariants as events
use Rattle.reference_model.specs.State.{machine_of}
use Rattle.reference_model.specs.RunState.{run_of, runs_of}
use Rattle.reference_store.specs.State.{store_of, sections_of}
use Rattle.reference_model.specs.Acting.{SlotStepsAs}
use Rattle.reference_model.specs.Following.{DoesAs}
use Rattle.reference_model.proofs.Events.{step-does}
use Rattle.reference_model.proofs.machine.Machine.step.Goals as goal

pub returns-clause-machine : goal.returns-clause-machine
returns-clause-machine c =
    let self = c.args.self.now in
    let m = machine_of self in
    let programs = self.programs.items in
    let items = self.runs.items in
    let r = c.index-r.result in
    let x = c.index_mut.result.now in
    let after = c.step_slot.new.slot in
    let t = store_of c.step_slot.new.store in
    let len : vec_len self.runs ≡ length items = search rules in
    let bound : r < length items = omega (arith, c.if-r-len.false, c.len.ensures, len) in
    let there : slice_get (runs_of programs items) r ≡ Some (option_map (run_of programs) x) =
    get-map (option_map (run_of programs)) items r x
    (slice_get_read items (length items) r x refl bound c.index_mut.ensures.value) in
    let opened : sections_of c.as_slice-2.result.now ≡ open_sections (runs_of programs items) =
    ap sections_of c.as_slice-2.ensures.value ∙ c.in_ok-opened.ensures in
    let by_programs = subst (λ ps. SlotStepsAs (store_of self.store) (sections_of c.as_slice-2.result.now)
    (option_map (run_of ps) x) c.step_slot.result t (option_map (run_of ps) after)) c.as_slice.ensures.value
    c.step_slot.ensures.steps in
    let by_sections = subst (λ o. SlotStepsAs (store_of self.store) o (option_map (run_of programs) x)
    c.step_slot.result t (option_map (run_of programs) after)) opened by_programs in
    let runs = map-set (option_map (run_of programs)) items r after in
    subst (λ k. DoesAs m (events.Step k) c.step_slot.result (with_runs (with_store m t) (runs_of programs (slice_set items r after)))) c.index-r.ensures
    (step-does m r (option_map (run_of programs) x) c.step_slot.result t (option_map (run_of programs) after)
    (with_runs (with_store m t) (runs_of programs (slice_set items r after))) there
    (sym c.step_refusal.ensures ∙ c.in_default.is)
    (ap (with_runs (with_store m t)) runs) by_sections)
