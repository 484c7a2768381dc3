-- Where a run that stands in a run slot after a step comes from.
use Rattle.bpf_model.proofs.Prelude.{◌≡◌, ℕ, List, length, Option, Some, None, inl, inr, refl, sym, ap, subst, ◌∙◌, Bool, true, false, slice_get, slice_set}
use Rattle.bpf_model.proofs.Prelude.{◌==◌, if◌then◌else◌, eqb-true, none-some, same_Some, Loaded, Run, Machine, open_sections, fresh_run, lowest_free, run_at}
use Rattle.bpf_model.proofs.Prelude.{RunStep, StepsRun, PerformsEvent, Answers, DoesEvent, Starts, refusal, start_refusal, if_full, AreBytes, IsReal}
use Rattle.model_laws.proofs.Prelude.{Event, Answer, EventRefusal, BadContext}
use Rattle.bpf_model.specs.declared.event.Event.TheVariants as events
use Rattle.bpf_model.specs.declared.event.Answer.TheVariants as answers
use Rattle.model_laws.proofs.Changing.{Change, Still, Begins, Steps, Stores, Leaves, change}
use Rattle.model_laws.proofs.Sections.{run-set_cases}

pub record FreshRun (m new : Machine) (run : Run) : Type 0 where
  pub index : ℕ
  pub program : Loaded
  pub loaded : slice_get m.programs index ≡ Some program
  pub context : List ℕ
  pub long : length context ≡ program.context_len
  pub bytes : AreBytes context
  pub is : fresh_run m.started program context ≡ run

pub record SteppedRun (m new : Machine) (r : ℕ) (run : Run) : Type 0 where
  pub old : Run
  pub there : run_at m.runs r ≡ Some old
  pub going : old.exit ≡ None
  pub answer : Answer
  pub step : RunStep m.store (open_sections m.runs) old answer new.store run

pub data Comes (m new : Machine) (r : ℕ) (run : Run) : Type 0 where
  Stands : run_at m.runs r ≡ Some run → Comes m new r run
  Starting : FreshRun m new run → Comes m new r run
  Stepping : SteppedRun m new r run → Comes m new r run

stands : (m new : Machine) (r : ℕ) (run : Run) → new.runs ≡ m.runs → run_at new.runs r ≡ Some run → Comes m new r run
stands m new r run e at = Stands (ap (λ l. run_at l r) (sym e) ∙ at)

context-fits : (b : Bool) (o : Option ℕ) → (if b then if_full o else Some BadContext) ≡ None → b ≡ true
context-fits true o h = refl
context-fits false o h = absurd (cc)

comes-start : (m : Machine) (prog : ℕ) (ctx : List ℕ) (r : ℕ) (new : Machine) → AreBytes ctx →
    start_refusal (slice_get m.programs prog) (length ctx) (lowest_free m.runs) ≡ None → Starts m prog ctx r new →
    (q : ℕ) (run : Run) → run_at new.runs q ≡ Some run → Comes m new q run
comes-start m prog ctx r new real pass h q run at =
    let runs : new.runs ≡ slice_set m.runs r (Some (fresh_run m.started h.program ctx)) = ap (λ x. x.runs) h.new_is in
    let fits : (length ctx == h.program.context_len) ≡ true =
    context-fits _ (lowest_free m.runs) (ap (λ o. start_refusal o (length ctx) (lowest_free m.runs)) (sym h.there)
    ∙ pass) in
    elim (run-set_cases m.runs r q (Some (fresh_run m.started h.program ctx)) run (ap (λ l. run_at l q) (sym runs) ∙ at)) [
      | inl x ↦ Starting (record {
        index = prog;
        program = h.program;
        loaded = h.there;
        context = ctx;
        long =
            eqb-true _ _ fits;
        bytes = real;
        is = same_Some _ _ x.1;
      })
      | inr x ↦ Stands x.1
    ]

comes-step : (m : Machine) (r : ℕ) (answer : Answer) (new : Machine) → StepsRun m r answer new → (q : ℕ) (run : Run) →
    run_at new.runs q ≡ Some run → Comes m new q run
comes-step m r answer new h q run at =
    let runs : new.runs ≡ slice_set m.runs r (Some h.new_run) = ap (λ x. x.runs) h.new_is in
    let store : h.new_store ≡ new.store = ap (λ x. x.store) (sym h.new_is) in
    elim (run-set_cases m.runs r q (Some h.new_run) run (ap (λ l. run_at l q) (sym runs) ∙ at)) [
      | inl x ↦ Stepping (record {
        old = h.run;
        there = ap (run_at m.runs) x.0 ∙ h.there;
        going = h.going;
        answer = answer;
        step = subst (λ s. RunStep m.store (open_sections m.runs) h.run answer s run) store
            (subst (λ y. RunStep m.store (open_sections m.runs) h.run answer h.new_store y) (same_Some _ _ x.1)
            h.step);
      })
      | inr x ↦ Stands x.1
    ]

comes-drop : (m new : Machine) (r : ℕ) → new.runs ≡ slice_set m.runs r None → (q : ℕ) (run : Run) → run_at new.runs q ≡ Some run → Comes m new q run
comes-drop m new r e q run at = elim (run-set_cases m.runs r q None run (ap (λ l. run_at l q) (sym e) ∙ at)) [
  | inl x ↦ absurd (none-some run x.1)
  | inr x ↦ Stands x.1
]

comes-change : (m new : Machine) (event : Event) (answer : Answer) → IsReal event → Change m new event answer → (q : ℕ) (run : Run) →
    run_at new.runs q ≡ Some run → Comes m new q run
comes-change m new event answer real (Still e counts) q run at = stands m new q run (ap (λ x. x.runs) e) at
comes-change m new event answer real (Begins prog ctx r pass h) q run at = comes-start m prog ctx.items r new real.1 pass h q run at
comes-change m new event answer real (Steps r h) q run at = comes-step m r answer new h q run at
comes-change m new event answer real (Stores store pass c e) q run at = stands m new q run (ap (λ x. x.runs) e) at
comes-change m new event answer real (Leaves r e) q run at = comes-drop m new r (ap (λ x. x.runs) e) q run at

pub does-come : (m new : Machine) (event : Event) (answer : Answer) → IsReal event → DoesEvent m event answer new →
    (q : ℕ) (run : Run) → run_at new.runs q ≡ Some run → Comes m new q run
does-come m new event answer real h q run at = comes-change m new event answer real (change m new event answer h) q run at
