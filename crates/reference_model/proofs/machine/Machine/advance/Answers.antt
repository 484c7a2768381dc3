use Rattle.bpf_model.proofs.Prelude.{◌≡◌, List, Bool, false, map, sym, ap, ◌∙◌, arith, with_items_is, with_items, Queues, Schedule, advanced, is_any, turned}
use Rattle.bpf_model.proofs.Prelude.{open_flags}
use Rattle.reference_model.specs.State.{machine_of, schedule_of}
use Rattle.reference_store.specs.State.{queues_of}
use Rattle.reference_model.specs.RunState.{runs_of}
use Rattle.reference_model.proofs.machine.Machine.advance.Goals as goal

pub returns-clause-lists : goal.returns-clause-lists
returns-clause-lists c =
    let self = c.args.self.now in
    let made : List Queues → List Bool → Schedule = λ qs flags. record { machine = machine_of self; queues = qs; awaited = flags } in
    let programs = self.programs.items in
    let none : is_any self.awaited.items ≡ false = ap is_any (sym c.as_slice.ensures.value) ∙ sym c.is_any.ensures ∙ c.if-is_any.false in
    let kept : (with_items self.queues c.turn_all.new.queues).items ≡ c.turn_all.new.queues =
    with_items_is self.queues c.turn_all.new.queues
    (omega (arith, c.turn_all.auto.queues, c.as_mut_slice.ensures.len)) in
    let queues = ap (map queues_of) kept ∙ c.in_ok-turn_all.ensures ∙ ap (λ qs. map turned (map queues_of qs)) c.as_mut_slice.ensures.value in
    let awaited = c.in_ok-awaited.ensures programs ∙ ap (λ rs. open_flags (runs_of programs rs)) c.as_slice-2.ensures.value in
    ap (λ qs. made qs c.in_ok-awaited.awaited.items) queues ∙
    ap (made (map turned (map queues_of self.queues.items))) awaited ∙
    ap (advanced (schedule_of self) (machine_of self)) (sym none)
