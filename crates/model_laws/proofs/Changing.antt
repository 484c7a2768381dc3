-- What an event changes: nothing, the runs, a run that steps, or the store. A law of all events goes by this, so an event that
-- changes no more than another one does asks for no case of its own.
use Rattle.bpf_model.proofs.Prelude.{◌≡◌, ℕ, ◌+◌, List, Option, Some, None, Bool, true, false, refl, ap, ◌∙◌, arith, Result, slice_set, ◌==◌, if◌then◌else◌}
use Rattle.bpf_model.proofs.Prelude.{Section, Element, Store, Updates, Deletes, Reclaims, Machine, open_sections, with_store, with_runs, StepsRun}
use Rattle.bpf_model.proofs.Prelude.{PerformsEvent, Answers, DoesEvent, Starts, refusal, moved_once, moves_after}
use Rattle.model_laws.proofs.Prelude.{Errno, Event, Answer, EventRefusal, Given}
use Rattle.arrayvec.specs.ArrayVec.{ArrayVec}
use Rattle.bpf_model.specs.declared.event.Event.TheVariants as events
use Rattle.bpf_model.specs.declared.event.Answer.TheVariants as answers

abbrev pub is_reap : Event → Bool
is_reap events.Reap = true
is_reap event = false

-- what an event does to the store beside the runs
pub data StoreChange (s : Store) (opened : List Section) (new : Store) : Event → Type 0 where
  ByUpdate : (map : ℕ) (key value : ArrayVec ℕ) (flags : ℕ) (ret : Result (Unit {0}) Errno) →
      Updates s opened map key.items value.items flags ret new → StoreChange s opened new (events.Update map key value flags)
  ByDelete : (map : ℕ) (key : ArrayVec ℕ) (ret : Result (Unit {0}) Errno) → Deletes s opened map key.items ret new →
      StoreChange s opened new (events.Delete map key)
  ByReclaim : (n : ℕ) (e : Element) (given : Given) → Reclaims s opened n e given new → StoreChange s opened new events.Reap

pub data Change (m new : Machine) : Event → Answer → Type 0 where
  Still : {event : Event} {answer : Answer} → new ≡ m → ((r n : ℕ) → moves_after r n event answer ≡ n) → Change m new event answer
  Begins : (prog : ℕ) (ctx : ArrayVec ℕ) (r : ℕ) → refusal m (events.Start prog ctx) ≡ None → Starts m prog ctx.items r new →
      Change m new (events.Start prog ctx) (answers.Started r)
  Steps : (r : ℕ) {answer : Answer} → StepsRun m r answer new → Change m new (events.Step r) answer
  Stores : {event : Event} {answer : Answer} (store : Store) → refusal m event ≡ None → StoreChange m.store (open_sections m.runs) store event →
      new ≡ with_store m store → Change m new event answer
  Leaves : (r : ℕ) → new ≡ with_runs m (slice_set m.runs r None) → Change m new (events.Drop r) answers.Done

performs-change : (m : Machine) (event : Event) (answer : Answer) (new : Machine) → refusal m event ≡ None →
    PerformsEvent m event answer new → Change m new event answer
performs-change m (events.Start prog ctx) (answers.Started r) new pass h = Begins prog ctx r pass h
performs-change m (events.Step r) answer new pass h = Steps r h
performs-change m (events.Update map key value flags) (answers.Ret ret) new pass h = Stores h.0 pass (ByUpdate map key value flags ret h.1) h.2
performs-change m (events.Delete map key) (answers.Ret ret) new pass h = Stores h.0 pass (ByDelete map key ret h.1) h.2
performs-change m (events.Read map key) (answers.Found (Some value)) new pass h = Still h.1 (λ r n. refl)
performs-change m (events.Read map key) (answers.Found None) new pass h = Still h.1 (λ r n. refl)
performs-change m events.Advance answers.Done new pass h = Still h (λ r n. refl)
performs-change m events.Reap (answers.Reaped None) new pass h = Still h (λ r n. refl)
performs-change m events.Reap (answers.Reaped (Some taken)) new pass h = Stores h.2 pass (ByReclaim h.0 h.1 taken.given h.3) h.6
performs-change m (events.Drop r) answers.Done new pass h = Leaves r h
performs-change m event answer new pass h = absurd h

same-or : (b : Bool) (n k : ℕ) → k ≡ 0 → (if b then n + k else n) ≡ n
same-or true n k e = omega (arith, e)
same-or false n k e = refl

-- a refusal counts no move
refused-same : (r n : ℕ) (event : Event) (k : EventRefusal) → moves_after r n event (answers.Refused k) ≡ n
refused-same r n (events.Step q) k = same-or (q == r) n (moved_once (answers.Refused k)) refl
refused-same r n (events.Start prog ctx) k = refl
refused-same r n event k = refl

answers-change : (o : Option EventRefusal) (m : Machine) (event : Event) (answer : Answer) (new : Machine) → refusal m event ≡ o →
    Answers o m event answer new → Change m new event answer
answers-change None m event answer new pass h = performs-change m event answer new pass h
answers-change (Some k) m event answer new pass h = Still h.1 (λ r n. ap (moves_after r n event) h.0 ∙ refused-same r n event k)

pub change : (m new : Machine) (event : Event) (answer : Answer) → DoesEvent m event answer new → Change m new event answer
change m new event answer h = answers-change (refusal m event) m event answer new refl h
