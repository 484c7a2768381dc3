use Rattle.bpf_model.proofs.Prelude.{◌≡◌, refl, sym, ap, ◌∙◌, subst, map, arith, with_items_is, with_items, open_sections, first_ready, without_first}
use Rattle.reference_model.specs.RunState.{runs_of}
use Rattle.reference_store.specs.State.{store_of, sections_of, queues_of}
use Rattle.reference_model.specs.State.{schedule_of}
use Rattle.reference_store.specs.Births.{ReclaimsTo}
use Rattle.reference_model.proofs.Following.{none-follows, reap-follows}
use Rattle.reference_model.proofs.machine.Machine.reap.Goals as goal
use Rattle.reference_model.proofs.machine.Machine.reap.Goals.{In-Ok}

reclaims : (c : In-Ok) → ReclaimsTo (store_of c.args.self.now.store)
    (open_sections (runs_of c.args.self.now.programs.items c.args.self.now.runs.items)) c.in-Some.n
    (store_of c.reclaim.new.self) c.in-Ok.element
reclaims c =
    let self = c.args.self.now in
    let opened : sections_of c.as_slice-2.result.now ≡ open_sections (runs_of self.programs.items self.runs.items) =
    ap sections_of c.as_slice-2.ensures.value ∙ c.in_ok-opened.ensures in
    subst (λ o. ReclaimsTo (store_of self.store) o c.in-Some.n (store_of c.reclaim.new.self) c.in-Ok.element) opened c.in-Ok.ensures.tells

pub returns-in-Ok-clause-machine : goal.returns-in-Ok-clause-machine
returns-in-Ok-clause-machine c =
    let r = reclaims (goal.at.returns-in-Ok-clause-machine c).In-Ok in
    (c.in-Some.n, r.0, store_of c.reclaim.new.self, r.1, r.2, r.3, refl)

pub returns-in_default-clause-lists : goal.returns-in_default-clause-lists
returns-in_default-clause-lists c = none-follows (schedule_of c.args.self.now)
    (ap (λ qs. first_ready (map queues_of qs)) (sym c.as_slice.ensures.value) ∙ sym c.first_ready.ensures ∙
    c.in_default.is)

pub returns-in-Ok-clause-lists : goal.returns-in-Ok-clause-lists
returns-in-Ok-clause-lists c =
    let self = c.args.self.now in
    let ready = ap (λ qs. first_ready (map queues_of qs)) (sym c.as_slice.ensures.value) ∙ sym c.first_ready.ensures ∙ c.in-Some.is in
    let kept : (with_items self.queues c.take_first.new.queues).items ≡ c.take_first.new.queues =
    with_items_is self.queues c.take_first.new.queues
    (omega (arith, c.take_first.auto.queues, c.as_mut_slice.ensures.len)) in
    let queues = ap (map queues_of) kept ∙ c.take_first.ensures ∙ ap (λ qs. without_first (map queues_of qs)) c.as_mut_slice.ensures.value in
    reap-follows (schedule_of c.args.self.now) c.in-Some.n (store_of c.reclaim.new.self) c.in-Ok.element _ ready
    (reclaims (goal.at.returns-in-Ok-clause-lists c).In-Ok) refl queues refl
