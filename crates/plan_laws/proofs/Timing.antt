-- Runs of verified programs exit in time: what a run has moved, by the answers, is less than its program is long.
use Rattle.bpf_model.proofs.Prelude.{◌≡◌, ℕ, zero, suc, ◌+◌, ◌<◌, List, [], ◌∷◌, length, Option, Some, None, inl, inr, refl, sym, ap, subst, ◌∙◌, Bool, true}
use Rattle.bpf_model.proofs.Prelude.{false, arith, slice_get, slice_set, take, ◌==◌, if◌then◌else◌, eq-eqb, ne_eqb, none-some, same_Some, Section, Store, Run}
use Rattle.bpf_model.proofs.Prelude.{Machine, open_sections, fresh_run, run_at, StepsRun, PerformsEvent, Answers, DoesEvent, Starts, refusal, AreReal}
use Rattle.bpf_model.proofs.Prelude.{IsHistory, moved_once, moves_after, moves_of, moved_by, ExitsInTime, AllExitInTime, WorldView, Tracks, shapes_of}
use Rattle.model_laws.proofs.Prelude.{Event, Answer, EventRefusal}
use Rattle.plan_laws.proofs.Prelude.{AreVerified, IsWell}
use Rattle.bpf_model.specs.declared.event.Event.TheVariants as events
use Rattle.bpf_model.specs.declared.event.Answer.TheVariants as answers
use Rattle.model_laws.proofs.Changing.{StoreChange, ByUpdate, ByDelete, ByReclaim, Change, Still, Begins, Steps, Stores, Leaves, change}
use Rattle.model_laws.proofs.Sections.{run-set_cases}
use Rattle.plan_laws.proofs.Reaching.{same-insn, keeps_well, reached_is_well, real-rest}

-- the number is what the run in run slot r has moved, where there is one
abbrev pub Counts : ℕ → ℕ → Machine → Type 0
Counts r n m = (run : Run) → run_at m.runs r ≡ Some run → n ≡ run.moved

counts-same : (r n : ℕ) (m new : Machine) → new.runs ≡ m.runs → Counts r n m → Counts r n new
counts-same r n m new e h run at = h run (ap (λ l. run_at l r) (sym e) ∙ at)

counts-start : (r n : ℕ) (m : Machine) (prog : ℕ) (ctx : List ℕ) (q : ℕ) (new : Machine) → Counts r n m →
    Starts m prog ctx q new → Counts r (if q == r then 0 else n) new
counts-start r n m prog ctx q new c h run at =
    elim (run-set_cases m.runs q r (Some (fresh_run m.started h.program ctx)) run (ap (λ (x : Machine). run_at x.runs r) (sym h.new_is) ∙ at)) [
      | inl x ↦ ap (λ b. if b then 0 else n) (eq-eqb q r (sym x.0)) ∙ ap (λ (y : Run). y.moved) (same_Some (fresh_run m.started h.program ctx) run x.1)
      | inr x ↦ ap (λ b. if b then 0 else n) (ne_eqb q r (λ e. x.0 (sym e))) ∙ c run x.1
    ]

counts-step : (r n : ℕ) (m : Machine) (q : ℕ) (answer : Answer) (new : Machine) → Counts r n m →
    StepsRun m q answer new → Counts r (if q == r then n + moved_once answer else n) new
counts-step r n m q answer new c h run at =
    elim (run-set_cases m.runs q r (Some h.new_run) run (ap (λ (x : Machine). run_at x.runs r) (sym h.new_is) ∙ at)) [
      | inl x ↦
          let s = same-insn h.step.0 m.store (open_sections m.runs) h.run answer h.new_store h.new_run h.step.2 in
          let e : n ≡ h.run.moved = c h.run (ap (run_at m.runs) x.0 ∙ h.there) in
          ap (λ b. if b then n + moved_once answer else n) (eq-eqb q r (sym x.0)) ∙
          (ap (λ k. k + moved_once answer) e ∙ (sym s.counts ∙
          ap (λ (y : Run). y.moved) (same_Some h.new_run run x.1)))
      | inr x ↦ ap (λ b. if b then n + moved_once answer else n) (ne_eqb q r (λ e. x.0 (sym e))) ∙ c run x.1
    ]

counts-drop : (r n : ℕ) (m : Machine) (q : ℕ) (new : Machine) → Counts r n m → new.runs ≡ slice_set m.runs q None → Counts r n new
counts-drop r n m q new c e run at = elim (run-set_cases m.runs q r None run (ap (λ l. run_at l r) (sym e) ∙ at)) [
  | inl x ↦ absurd (none-some run x.1)
  | inr x ↦ c run x.1
]

-- an event that changes the store beside the runs counts no move
counts-none : (r n : ℕ) (s : Store) (opened : List Section) (new : Store) (event : Event) (answer : Answer) → StoreChange s opened new event →
    moves_after r n event answer ≡ n
counts-none r n s opened new event answer (ByUpdate map key value flags ret u) = refl
counts-none r n s opened new event answer c = refl

counts-change : (r n : ℕ) (m new : Machine) (event : Event) (answer : Answer) → Counts r n m → Change m new event answer →
    Counts r (moves_after r n event answer) new
counts-change r n m new event answer c (Still e counts) =
    subst (λ x. Counts r x new) (sym (counts r n)) (counts-same r n m new (ap (λ x. x.runs) e) c)
counts-change r n m new event answer c (Begins prog ctx q pass h) = counts-start r n m prog ctx.items q new c h
counts-change r n m new event answer c (Steps q h) = counts-step r n m q answer new c h
counts-change r n m new event answer c (Stores store pass stored e) =
    subst (λ x. Counts r x new) (sym (counts-none r n m.store (open_sections m.runs) store event answer stored))
    (counts-same r n m new (ap (λ x. x.runs) e) c)
counts-change r n m new event answer c (Leaves q e) = counts-drop r n m q new c (ap (λ x. x.runs) e)

-- what the answers count is what the run has moved
pub does_count : (r n : ℕ) (m new : Machine) (event : Event) (answer : Answer) → Counts r n m →
    DoesEvent m event answer new → Counts r (moves_after r n event answer) new
does_count r n m new event answer c h = counts-change r n m new event answer c (change m new event answer h)

below-well : (r n : ℕ) (m : Machine) (run : Run) → IsWell m → Counts r n m → run_at m.runs r ≡ Some run → n < length run.program.code
below-well r n m run w c at = let e : n ≡ run.moved = c run at in let l : run.moved < length run.program.code = w.moved r run at in omega arith

in-time : (m : Machine) (events : List Event) (answers : List Answer) (states : List Machine) → IsWell m →
    AreReal events → IsHistory m events answers states → (r n j : ℕ) (later : Machine) (run : Run) → Counts r n m →
    slice_get (m ∷ states) j ≡ Some later → run_at later.runs r ≡ Some run → moves_of r n (take j events) (take j answers) < length run.program.code
in-time m events answers states w real h r n zero later run c at there =
    below-well r n m run w c (ap (λ (x : Machine). run_at x.runs r) (same_Some m later at) ∙ there)
in-time m [] [] [] w real h r n (suc j) later run c at there = absurd (none-some later at)
in-time m (event ∷ events) (answer ∷ answers) (next ∷ states) w real h r n (suc j) later run c at there =
    in-time next events answers states (keeps_well m next event answer w (real 0 event refl) h.0)
    (real-rest event events real) h.1 r (moves_after r n event answer) j later run
    (does_count r n m next event answer c h.0) at there
in-time m events answers states w real h r n (suc j) later run c at there = absurd h

-- at first it is what the run there had moved
moved-first : (r : ℕ) (m : Machine) → Counts r (moved_by (run_at m.runs r)) m
moved-first r m run at = ap moved_by at

pub exits_in_time_along : (m : Machine) (events : List Event) (answers : List Answer) (states : List Machine) →
    IsWell m → AreReal events → IsHistory m events answers states → ExitsInTime m events answers states
exits_in_time_along m events answers states w real h j r later run at there =
    in-time m events answers states w real h r (moved_by (run_at m.runs r)) j later run (moved-first r m) at there

pub tracked_exits_in_time : (w : WorldView) (events : List Event) (answers : List Answer) →
    AreVerified (shapes_of w) w.programs → AreReal events → AllExitInTime Tracks w events answers
tracked_exits_in_time w events answers safe real m t states h =
    exits_in_time_along m events answers states (subst IsWell t.1 (reached_is_well (shapes_of w) w.programs t.0 safe t.2.reached)) real h
