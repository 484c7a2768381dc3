use Rattle.bpf_model.proofs.Prelude.{◌≡◌, List, Bool, map, ap, ◌∙◌, arith, with_items_is, with_items, Queues, Schedule, retired, still_open, open_flags}
use Rattle.reference_model.specs.State.{machine_of}
use Rattle.reference_store.specs.State.{queues_of, elements_of}
use Rattle.reference_model.specs.RunState.{runs_of}
use Rattle.reference_model.proofs.machine.Machine.settle.Goals as goal

pub returns-clause-lists : goal.returns-clause-lists
returns-clause-lists c = λ olds h.
    let self = c.args.self.now in
    let made : List Queues → List Bool → Schedule = λ qs flags. record { machine = machine_of self; queues = qs; awaited = flags } in
    let elements = self.store.elements.items in
    let kept : (with_items self.queues c.retire_all.new.queues).items ≡ c.retire_all.new.queues =
    with_items_is self.queues c.retire_all.new.queues
    (omega (arith, c.retire_all.auto.queues, c.as_mut_slice.ensures.len)) in
    let queues = ap (map queues_of) kept ∙ c.in_ok-retire_all.ensures olds h ∙
    ap (λ es. retired 0 olds (elements_of es) (map queues_of c.as_mut_slice.result.now))
    c.as_slice-4.ensures.value ∙ ap (λ qs. retired 0 olds (elements_of elements) (map queues_of qs))
    c.as_mut_slice.ensures.value in
    let programs = self.programs.items in
    let opened = c.in_ok-opened.ensures programs ∙ ap (λ rs. open_flags (runs_of programs rs)) c.as_slice.ensures.value in
    let awaited = c.in_ok-awaited.ensures ∙ ap (λ f. still_open f c.as_slice-3.result.now) c.as_slice-2.ensures.value
    ∙ ap (still_open self.awaited.items) (c.as_slice-3.ensures.value ∙ opened) in
    ap (λ qs. made qs c.in_ok-awaited.awaited.items) queues ∙ ap (made (retired 0 olds (elements_of elements) (map queues_of self.queues.items))) awaited
