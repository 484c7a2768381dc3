-- The lists after each event.
use Rattle.bpf_model.proofs.Prelude.{◌≡◌, ℕ, Some, None, refl, sym, ap, ◌∙◌, slice_get, slice_set, Reclaimed, with_life, Store, with_store, open_sections}
use Rattle.bpf_model.proofs.Prelude.{Schedule, advanced, is_any, first_ready, without_first, Ok, Err, Result, IfOk, OnOk, TakesOldest, DoesScheduled}
use Rattle.bpf_model.proofs.Prelude.{get-set_there, none-without}
use Rattle.model_laws.proofs.Prelude.{Event, Advance, Reap, Answer, Done, Reaped, ReapedElement}
use Rattle.reference_store.specs.declared.fault.ModelFault.{ModelFault}
use Rattle.reference_model.specs.Following.{DoesAs, FollowsLists}
use Rattle.reference_store.specs.Births.{ReclaimsTo}

pub advance-follows : (s new : Schedule) → new.machine ≡ s.machine → new ≡ advanced s s.machine (is_any s.awaited) → FollowsLists s Advance Done new
advance-follows s new same lists = record { first = tt; lists = lists ∙ ap (λ m. advanced s m (is_any s.awaited)) (sym same) }

pub none-follows : (s : Schedule) → first_ready s.queues ≡ None → FollowsLists s Reap (Reaped None) s
none-follows s h = record { first = h; lists = ap (λ qs. record { machine = s.machine; queues = qs; awaited = s.awaited }) (sym (none-without s.queues h)) }

pub reap-follows : (s : Schedule) (n : ℕ) (store : Store) (taken : ReapedElement) (new : Schedule) →
    first_ready s.queues ≡ Some n → ReclaimsTo s.machine.store (open_sections s.machine.runs) n store taken →
    new.machine ≡ with_store s.machine store → new.queues ≡ without_first s.queues → new.awaited ≡ s.awaited → FollowsLists s Reap (Reaped (Some taken)) new
reap-follows s n store taken new h r machine queues awaited =
    let e = r.0 in
    let c = r.1 in
    let elements : new.machine.store.elements ≡ slice_set s.machine.store.elements n (with_life Reclaimed e) =
    ap (λ m. m.store.elements) machine ∙ ap (λ t. t.elements) c.new_is in
    let after : slice_get new.machine.store.elements n ≡ Some (with_life Reclaimed e) =
    ap (λ l. slice_get l n) elements ∙ get-set_there s.machine.store.elements n e (with_life Reclaimed e)
    c.born in
    record {
      first = (n, c.since, h, (e, c.born, c.unlinked), (with_life Reclaimed e, after, refl));
      lists = ap (λ qs. record { machine = new.machine; queues = qs; awaited = new.awaited }) queues ∙
          ap (λ f. record { machine = new.machine; queues = without_first s.queues; awaited = f }) awaited;
    }

-- the three parts of a step with the runtime's choices
pub schedules : (s new : Schedule) (event : Event) (result : Result Answer ModelFault) →
    DoesAs s.machine event result new.machine → IfOk result (λ answer. FollowsLists s event answer new) →
    OnOk result (TakesOldest s.machine.store new.machine.store) → IfOk result (λ answer. DoesScheduled s event answer new)
schedules s new event (Ok answer) d f o = record { step = d; first = f.first; oldest = o; lists = f.lists }
schedules s new event (Err fault) d f o = f
