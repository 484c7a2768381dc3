-- A history of the machine, with one program more in each state.
use Rattle.bpf_model.proofs.Prelude.{◌≡◌, ◌∙◌, ℕ, zero, suc, ◌+◌, ◌<◌, List, [], ◌∷◌, ◌++◌, length, map, Option, Some, None, Bool, true, false, inl, inr}
use Rattle.bpf_model.proofs.Prelude.{refl, sym, ap, subst, arith, slice_get, none-some, same_Some, slice_get_past, length-append, Loaded, Machine}
use Rattle.bpf_model.proofs.Prelude.{lowest_free, PerformsEvent, Answers, DoesEvent, refusal, start_refusal, last_of, IsReal, AreReal, IsReachedSchedule}
use Rattle.bpf_model.proofs.Prelude.{Schedule, TakesFirst, DoesScheduled, IsScheduledHistory, advanced, is_any, scheduled, start_schedule, option_cases}
use Rattle.bpf_model.proofs.Prelude.{get-append}
use Rattle.model_laws.proofs.Prelude.{Event, Answer, EventRefusal, NoProgram, MapShape, MAX_PROGRAMS}
use Rattle.world_laws.proofs.Prelude.{loads, schedule_loads}
use Rattle.arrayvec.specs.ArrayVec.{ArrayVec}
use Rattle.bpf_model.specs.declared.event.Event.TheVariants as events
use Rattle.bpf_model.specs.declared.event.Answer.TheVariants as answers
use Rattle.plan_laws.proofs.Valued.{does-programs}
use Rattle.plan_laws.proofs.Reaching.{real-rest}

-- the program is there under the number of the event, where the event is a start
abbrev HasProgram : Machine → Event → Type 0
HasProgram m (events.Start prog ctx) = (program : Loaded) × (slice_get m.programs prog ≡ Some program)
HasProgram m event = Unit {0}

module _ (p : Loaded) where
  -- what is performed
  performs : (m new : Machine) (event : Event) (answer : Answer) → PerformsEvent m event answer new →
      PerformsEvent (loads p m) event answer (loads p new)
  performs m new (events.Start prog ctx) (answers.Started r) h = record {
    program = h.program;
    there = get-append m.programs (p ∷ []) prog h.program h.there;
    lowest = h.lowest;
    new_is = ap (loads p) h.new_is;
  }
  performs m new (events.Step r) answer h = record {
    run = h.run;
    there = h.there;
    going = h.going;
    new_store = h.new_store;
    new_run = h.new_run;
    step = h.step;
    new_is = ap (loads p) h.new_is;
  }
  performs m new (events.Update k key value flags) (answers.Ret ret) h = (h.0, h.1, ap (loads p) h.2)
  performs m new (events.Delete k key) (answers.Ret ret) h = (h.0, h.1, ap (loads p) h.2)
  performs m new (events.Read k key) (answers.Found (Some value)) h = (
    record { n = h.0.n; linked = h.0.linked; value_is = h.0.value_is },
    ap (loads p) h.1,
  )
  performs m new (events.Read k key) (answers.Found None) h = (h.0, ap (loads p) h.1)
  performs m new events.Advance answers.Done h = ap (loads p) h
  performs m new events.Reap (answers.Reaped None) h = ap (loads p) h
  performs m new events.Reap (answers.Reaped (Some taken)) h = (h.0, h.1, h.2, h.3, h.4, h.5, ap (loads p) h.6)
  performs m new (events.Drop r) answers.Done h = ap (loads p) h
  performs m new event answer h = absurd h

  answered : (o : Option EventRefusal) (m new : Machine) (event : Event) (answer : Answer) → Answers o m event answer new →
      Answers o (loads p m) event answer (loads p new)
  answered None m new event answer h = performs m new event answer h
  answered (Some k) m new event answer h = (h.0, ap (loads p) h.1)

  -- the same test fails first
  same-start : (m : Machine) (prog len : ℕ) (free : Option ℕ) (program : Loaded) → slice_get m.programs prog ≡ Some program →
      start_refusal (slice_get (loads p m).programs prog) len free ≡ start_refusal (slice_get m.programs prog) len free
  same-start m prog len free program h =
      ap (λ o. start_refusal o len free) (get-append m.programs (p ∷ []) prog program h ∙ sym h)

  same-refusal : (m : Machine) (event : Event) → HasProgram m event → refusal (loads p m) event ≡ refusal m event
  same-refusal m (events.Start prog ctx) h = same-start m prog (length ctx.items) (lowest_free m.runs) h.0 h.1
  same-refusal m (events.Step r) h = refl
  same-refusal m (events.Update k key value flags) h = refl
  same-refusal m (events.Delete k key) h = refl
  same-refusal m (events.Read k key) h = refl
  same-refusal m (events.Drop r) h = refl
  same-refusal m event h = refl

  does : (m new : Machine) (event : Event) (answer : Answer) → HasProgram m event → DoesEvent m event answer new →
      DoesEvent (loads p m) event answer (loads p new)
  does m new event answer has h = subst (λ o. Answers o (loads p m) event answer (loads p new))
      (sym (same-refusal m event has)) (answered (refusal m event) m new event answer h)

  -- the runtime's choices
  same-first : (s : Schedule) (m : Machine) (event : Event) (answer : Answer) → TakesFirst s event answer m →
      TakesFirst (schedule_loads p s) event answer (loads p m)
  same-first s m events.Reap (answers.Reaped None) h = h
  same-first s m events.Reap (answers.Reaped (Some element)) h = h
  same-first s m event answer h = tt

  same-advanced : (s : Schedule) (m : Machine) (b : Bool) → schedule_loads p (advanced s m b) ≡ advanced (schedule_loads p s) (loads p m) b
  same-advanced s m true = refl
  same-advanced s m false = refl

  same-scheduled : (s : Schedule) (m : Machine) (event : Event) →
      schedule_loads p (scheduled s event m) ≡ scheduled (schedule_loads p s) event (loads p m)
  same-scheduled s m events.Advance = same-advanced s m (is_any s.awaited)
  same-scheduled s m events.Reap = refl
  same-scheduled s m event = refl

  does-scheduled : (s new : Schedule) (event : Event) (answer : Answer) → HasProgram s.machine event →
      DoesScheduled s event answer new → DoesScheduled (schedule_loads p s) event answer (schedule_loads p new)
  does-scheduled s new event answer has h = record {
    step = does s.machine new.machine event answer has h.step;
    first = same-first s new.machine event answer h.first;
    oldest = h.oldest;
    lists = ap (schedule_loads p) h.lists ∙ same-scheduled s new.machine event;
  }

  -- a start that was refused for want of its program is refused under a number that is still free
  missing : (s new : Schedule) (prog other : ℕ) (ctx : ArrayVec ℕ) (answer : Answer) → slice_get s.machine.programs prog ≡ None →
      slice_get (loads p s.machine).programs other ≡ None → DoesScheduled s (events.Start prog ctx) answer new →
      DoesScheduled (schedule_loads p s) (events.Start other ctx) answer (schedule_loads p new)
  missing s new prog other ctx answer none free h =
      let len = length ctx.items in
      let slot = lowest_free s.machine.runs in
      let refused : Answers (Some NoProgram) s.machine (events.Start prog ctx) answer new.machine =
      subst (λ o. Answers (start_refusal o len slot) s.machine (events.Start prog ctx) answer new.machine) none h.step in
      let again : Answers (Some NoProgram) (loads p s.machine) (events.Start other ctx) answer (loads p new.machine) =
      (refused.0, ap (loads p) refused.1) in
      record {
        step = subst (λ o. Answers (start_refusal o len slot) (loads p s.machine) (events.Start other ctx) answer
            (loads p new.machine)) (sym free) again;
        first = tt;
        oldest = h.oldest;
        lists = ap (schedule_loads p) h.lists;
      }

  past : (programs : List Loaded) → slice_get (programs ++ p ∷ []) (length programs + 1) ≡ None
  past programs =
      let count = length-append programs (p ∷ []) in
      slice_get_past (programs ++ p ∷ []) (length programs + 1) (omega arith)

  -- one event with one program more, and the same answer
  pub record Again (s new : Schedule) (answer : Answer) : Type 0 where
    pub event : Event
    pub real : IsReal event
    pub step : DoesScheduled (schedule_loads p s) event answer (schedule_loads p new)

  again : (s new : Schedule) (event : Event) (answer : Answer) → length s.machine.programs < MAX_PROGRAMS → IsReal event →
      DoesScheduled s event answer new → Again s new answer
  again s new (events.Start prog ctx) answer room real h = elim (option_cases (slice_get s.machine.programs prog)) [
    | inl none ↦ record {
      event = events.Start (length s.machine.programs + 1) ctx;
      real = (omega arith, real.1);
      step = missing s new prog (length s.machine.programs + 1) ctx answer none (past s.machine.programs) h;
    }
    | inr there ↦ record {
      event = events.Start prog ctx;
      real = real;
      step = does-scheduled s new (events.Start prog ctx) answer there h;
    }
  ]
  again s new event answer room real h = record { event = event; real = real; step = does-scheduled s new event answer tt h }

  real-more : (event : Event) (events : List Event) → IsReal event → AreReal events → AreReal (event ∷ events)
  real-more event events first rest zero e at = subst IsReal (same_Some event e at) first
  real-more event events first rest (suc k) e at = rest k e at

  -- a history with one program more, and the same answers
  pub record HistoryAgain (s : Schedule) (answers : List Answer) (states : List Schedule) : Type 0 where
    pub events : List Event
    pub real : AreReal events
    pub history : IsScheduledHistory (schedule_loads p s) events answers (map (schedule_loads p) states)

  history-again : (s : Schedule) (events : List Event) (answers : List Answer) (states : List Schedule) →
      length s.machine.programs < MAX_PROGRAMS → AreReal events → IsScheduledHistory s events answers states → HistoryAgain s answers states
  history-again s [] [] [] room real h = record { events = []; real = λ k event at. absurd (none-some event at); history = tt }
  history-again s (event ∷ events) (answer ∷ answers) (next ∷ states) room real h =
      let one = again s next event answer room (real 0 event refl) h.0 in
      let same : length next.machine.programs ≡ length s.machine.programs =
      ap length (does-programs s.machine next.machine event answer h.0.step) in
      let rest = history-again next events answers states (omega arith) (real-rest event events real) h.1 in
      record {
        events = one.event ∷ rest.events;
        real = real-more one.event rest.events one.real rest.real;
        history = (one.step, rest.history);
      }
  history-again s events answers states room real h = absurd h

  last-again : (s : Schedule) (states : List Schedule) →
      last_of (schedule_loads p s) (map (schedule_loads p) states) ≡ schedule_loads p (last_of s states)
  last-again s [] = refl
  last-again s (next ∷ states) = last-again next states

  pub reached_with_one_more : (shapes : List MapShape) (programs : List Loaded) (s : Schedule) → length programs < MAX_PROGRAMS →
      IsReachedSchedule shapes programs s → IsReachedSchedule shapes (programs ++ p ∷ []) (schedule_loads p s)
  reached_with_one_more shapes programs s room h =
      let start = start_schedule shapes programs in
      let g = history-again start h.events h.answers h.states room h.real h.history in
      record {
        limits = h.limits;
        events = g.events;
        answers = h.answers;
        states = map (schedule_loads p) h.states;
        real = g.real;
        history = g.history;
        last = last-again start h.states ∙ ap (schedule_loads p) h.last;
      }
