-- Events and their answers.
use Rattle.bpf_model.proofs.Prelude.{◌≡◌, ℕ, List, Option, Some, None, refl, sym, ap, ◌∙◌, subst, Result, slice_get, slice_set, length, if◌then◌else◌}
use Rattle.bpf_model.proofs.Prelude.{option_flatten, Store, shape_of, Run, Machine, run_at, open_sections, with_runs, with_store, StepsRun, eq-eqb, Loaded}
use Rattle.bpf_model.proofs.Prelude.{lowest_free, begins, refusal, key_refusal, start_refusal, if_full, step_refusal, if_ended, Answers, PerformsEvent}
use Rattle.bpf_model.proofs.Prelude.{DoesEvent}
use Rattle.model_laws.proofs.Prelude.{Event, Answer, Found, Started, BadContext}
use Rattle.bpf_model.specs.declared.event.Event.TheVariants as events
use Rattle.std.specs.Option.{option_map}
use Rattle.reference_store.specs.Births.{Finds}
use Rattle.arrayvec.specs.ArrayVec.{ArrayVec}
use Rattle.reference_store.specs.declared.fault.ModelFault.{ModelFault}
use Rattle.reference_model.specs.Acting.{SlotStep, SlotStepsAs}
use Rattle.reference_model.specs.Following.{DoesAs}
use Rattle.reference_store.proofs.Telling.{tells-map}

pub does-performs : (m : Machine) (event : Event) (answer : Answer) (new : Machine) → refusal m event ≡ None →
    PerformsEvent m event answer new → DoesEvent m event answer new
does-performs m event answer new h p = subst (λ o. Answers o m event answer new) (sym h) p

does-only : (m : Machine) (event : Event) (answer : Answer) (new : Machine) → refusal m event ≡ None →
    DoesEvent m event answer new → PerformsEvent m event answer new
does-only m event answer new h d = subst (λ o. Answers o m event answer new) h d

-- the run in a run slot
going-on : (o : Option Run) (run : Run) → o ≡ Some run → step_refusal o ≡ None → run.exit ≡ None
going-on None run h e = absurd cc
going-on (Some x) run h e =
    let same : x ≡ run = cc in
    let ended : x.exit ≡ None = by x.exit refl e in
    ap (λ r. r.exit) (sym same) ∙ ended
  where
    by : (q : Option ℕ) → x.exit ≡ q → if_ended x.exit ≡ None → x.exit ≡ None
    by None f g = f
    by (Some n) f g = absurd (let p : if_ended (Some n) ≡ None = ap if_ended (sym f) ∙ g in cc)

pub step-does : (m : Machine) (r : ℕ) (old : Option Run) (answer : Result Answer ModelFault) (t : Store)
    (q : Option Run) (new : Machine) → slice_get m.runs r ≡ Some old → step_refusal (run_at m.runs r) ≡ None →
    new ≡ with_runs (with_store m t) (slice_set m.runs r q) → SlotStepsAs m.store (open_sections m.runs) old answer t q → DoesAs m (events.Step r) answer new
step-does m r old answer t q new h free is s = tells-map _ _ _ _ answer done stuck s
  where
    at : run_at m.runs r ≡ option_flatten (Some old)
    at = ap option_flatten h

    done : (a : Answer) → SlotStep m.store (open_sections m.runs) old a t q → DoesEvent m (events.Step r) a new
    done a k = does-performs m (events.Step r) a new free (moved old a k at)
      where
        moved : (o : Option Run) (a : Answer) → SlotStep m.store (open_sections m.runs) o a t q → run_at m.runs r ≡ option_flatten (Some o) → StepsRun m r a new
        moved None a k e = absurd k
        moved (Some run) a k e = record {
          run = run;
          there = e;
          going = going-on (Some run) run refl (ap step_refusal (sym e) ∙ free);
          new_store = t;
          new_run = k.0;
          step = k.2;
          new_is = is ∙ ap (λ x. with_runs (with_store m t) (slice_set m.runs r x)) k.1;
        }

    stuck : ((a : Answer) (u : Store) (p : Option Run) → SlotStep m.store (open_sections m.runs) old a u p → ⊥) →
        (a : Answer) (next : Machine) → DoesEvent m (events.Step r) a next → ⊥
    stuck none a next d =
        let p = does-only m (events.Step r) a next free d in
        let o : old ≡ Some p.run = sym at ∙ p.there in
        none a p.new_store (Some p.new_run) (subst (λ x.
        SlotStep m.store (open_sections m.runs) x a p.new_store (Some p.new_run)) (sym o)
        (p.new_run, refl, p.step))

pub start-does : (m : Machine) (prog r : ℕ) (ctx : ArrayVec ℕ) (program : Loaded) (new : Machine) →
    slice_get m.programs prog ≡ Some program → length ctx.items ≡ program.context_len → lowest_free m.runs ≡ Some r →
    new ≡ begins m r program ctx.items → DoesEvent m (events.Start prog ctx) (Started r) new
start-does m prog r ctx program new h l free is =
    let none : refusal m (events.Start prog ctx) ≡ None =
    ap (λ o. start_refusal o (length ctx.items) (lowest_free m.runs)) h ∙
    ap (λ b. if b then if_full (lowest_free m.runs) else Some BadContext)
    (eq-eqb (length ctx.items) program.context_len l) ∙ ap if_full free in
    does-performs m (events.Start prog ctx) (Started r) new none (record { program = program; there = h; lowest = free; new_is = is })

abbrev pub bytes_of : ArrayVec ℕ → List ℕ
bytes_of v = v.items

pub read-does : (m : Machine) (map : ℕ) (key : ArrayVec ℕ) (found : Option (ArrayVec ℕ)) →
    key_refusal (shape_of m.store map) (length key.items) ≡ None →
    Finds m.store.elements map key.items (option_map bytes_of found) →
    DoesEvent m (events.Read map key) (Found found) m
read-does m map key None free absent = does-performs m (events.Read map key) (Found None) m free (absent, refl)
read-does m map key (Some value) free f = does-performs m (events.Read map key) (Found (Some value)) m free
    (record { n = f.0; linked = f.1; value_is = f.2 }, refl)
