-- A change of one run slot, by its run's step or a drop, is a step of the schedule.
use Rattle.bpf_model.proofs.Prelude.{◌≡◌, ◌∙◌, ℕ, suc, ◌+◌, ◌-◌, ◌<◌, List, [], ◌∷◌, length, Option, Some, None, inl, inr, refl, sym, ap, arith, Bool, true}
use Rattle.bpf_model.proofs.Prelude.{false, subst, ℤ, slice_get, slice_set, slice_index, nat_lt, nat_le, ◌==◌, if◌then◌else◌, cases_eq, same_Some}
use Rattle.bpf_model.proofs.Prelude.{kernel_function_of, insn_at, Element, Store, open_sections, Loaded, Run, run_at, moves, locked, unlocked, with_runs}
use Rattle.bpf_model.proofs.Prelude.{with_store, StepsRun, returns, Answers, refusal, step_refusal, if_ended, drop_refusal, if_running, Schedule, is_open}
use Rattle.bpf_model.proofs.Prelude.{open_flags, still_open, retired, TakesOldest, DoesScheduled, WordIs, element_bases, RunView, WorldView, RunRefines}
use Rattle.bpf_model.proofs.Prelude.{RunSlotRefines, RefinesSchedule, oldest-none, run-behind, length-set, map-set, get-set_other, get-set_there}
use Rattle.bpf_model.proofs.Prelude.{option_flatten}
use Rattle.model_laws.proofs.Prelude.{MAX_DEPTH, Call, ReadLock, ReadUnlock, Answer, Moved, Done, Value, Nothing, KernelStep, with_run, locked_view}
use Rattle.model_laws.proofs.Prelude.{unlocked_view, Matches, Simulates, half}
use Rattle.bpf_model.specs.declared.insn.CallKind.TheVariants as kinds
use Rattle.bpf_model.specs.declared.event.Event.TheVariants as events
use Rattle.model_laws.specs.Reactions.{is_open_view}
use Rattle.model_laws.proofs.ViewedWorlds.{retired-same, steps}
use Rattle.model_laws.proofs.Requests.{of_kind}

length-still : (a b : List Bool) → length a ≡ length b → length (still_open a b) ≡ length b
length-still [] [] l = refl
length-still [] (y ∷ b) l = absurd (omega arith)
length-still (x ∷ a) [] l = absurd (omega arith)
length-still (x ∷ a) (y ∷ b) l = ap suc (length-still a b (omega arith))

open-is : (slots : List ℕ) (es : List Element) (programs : List Loaded) (v : Option RunView) (run : Option Run) →
    RunSlotRefines slots es programs (Some v) (Some run) → is_open run ≡ is_open_view v
open-is slots es programs None None h = refl
open-is slots es programs (Some v) (Some run) h = ap (nat_lt 0) (sym h.words.depth)
open-is slots es programs v run h = absurd h

abbrev pub run-changed : Schedule → ℕ → Option Run → ℕ → Schedule
run-changed s r run started = record {
  machine = record { store = s.machine.store; runs = slice_set s.machine.runs r run; started = started; programs = s.machine.programs };
  queues = s.queues;
  awaited = still_open s.awaited (open_flags (slice_set s.machine.runs r run));
}

-- the other half of a step: the store stays, and one run slot changes
pub run-world : (w : WorldView) (s : Schedule) (x : RefinesSchedule w s) (r : ℕ) (old : Option RunView)
    (before : Option Run) (v : Option RunView) (run : Option Run) (started : ℕ) → slice_get w.runs r ≡ Some old →
    slice_get s.machine.runs r ≡ Some before →
    RunSlotRefines x.slots s.machine.store.elements s.machine.programs (Some v) (Some run) → RefinesSchedule (with_run r v w) (run-changed s r run started)
run-world w s x r old before v run started at there h =
    let opened : slice_set w.opened r (is_open_view v) ≡ open_flags (slice_set s.machine.runs r run) =
    ap (λ b. slice_set w.opened r b) (sym (open-is x.slots s.machine.store.elements s.machine.programs v run h)) ∙
    (ap (λ l. slice_set l r (is_open run)) x.opened ∙ sym (map-set is_open s.machine.runs r run)) in
    record {
      slots = x.slots;
      named = x.named;
      maps = x.maps;
      map = x.map;
      runs = λ q. elim (cases_eq q r) [
        | inl same ↦
            let P : Option (Option RunView) → Option (Option Run) → Type 0 = RunSlotRefines x.slots s.machine.store.elements s.machine.programs in
            subst (λ z. P (slice_get (slice_set w.runs r v) z) (slice_get (slice_set s.machine.runs r run) z)) (sym same)
            (subst (λ z. P z (slice_get (slice_set s.machine.runs r run) r)) (sym (get-set_there w.runs r old v at))
            (subst (λ z. P (Some v) z) (sym (get-set_there s.machine.runs r before run there)) h))
        | inr ne ↦
            let P : Option (Option RunView) → Option (Option Run) → Type 0 = RunSlotRefines x.slots s.machine.store.elements s.machine.programs in
            subst (λ z. P z (slice_get (slice_set s.machine.runs r run) q)) (sym (get-set_other w.runs r q v ne))
            (subst (λ z. P (slice_get w.runs q) z) (sym (get-set_other s.machine.runs r q run ne)) (x.runs q))
      ];
      opened = opened;
      awaited = λ j. still_open (x.awaited j) (opened j);
      flags = length-still s.awaited (open_flags (slice_set s.machine.runs r run))
          (x.flags ∙ (sym (length-set (open_flags s.machine.runs) r (is_open run)) ∙
          ap length (sym (map-set is_open s.machine.runs r run))));
      programs = x.programs;
      given = x.given;
    }

module _ (w : WorldView) (s : Schedule) (sim : Matches w s) (r : ℕ) where
  abbrev x : RefinesSchedule w s
  x = sim.refines

  there : (old : RunView) → slice_get w.runs r ≡ Some (Some old) → (before : Run) ×
      (slice_get s.machine.runs r ≡ Some (Some before)) ×
      RunRefines x.slots s.machine.store.elements s.machine.programs old before
  there old at = run-behind x.slots s.machine.store.elements s.machine.programs old (slice_get w.runs r) (slice_get s.machine.runs r) at (x.runs r)

  pub lists-same : (run : Option Run) (started : ℕ) → run-changed s r run started ≡ record {
    machine = (run-changed s r run started).machine;
    queues = retired 0 s.machine.store.elements s.machine.store.elements s.queues;
    awaited = still_open s.awaited (open_flags (slice_set s.machine.runs r run));
  }
  lists-same run started = λ j. record {
    machine = (run-changed s r run started).machine;
    queues =
        sym (retired-same 0 s.machine.store.elements s.queues) j;
    awaited =
        still_open s.awaited (open_flags (slice_set s.machine.runs r run));
  }

  going : (run : Run) → run_at s.machine.runs r ≡ Some run → run.exit ≡ None → refusal s.machine (events.Step r) ≡ None
  going run at e = ap step_refusal at ∙ ap if_ended e

  module _ (run later : Run) (old new : RunView) (answer : Answer) (run_is : run_at s.machine.runs r ≡ Some run)
      (at : slice_get w.runs r ≡ Some (Some old)) (h : RunRefines x.slots s.machine.store.elements s.machine.programs
      new later)
      (step : StepsRun s.machine r answer (with_runs s.machine (slice_set s.machine.runs r (Some later)))) where
    pub move_simulates : Simulates s (events.Step r) (answer, with_run r (Some new) w)
    move_simulates =
        let b = there old at in
        let t : Schedule = run-changed s r (Some later) s.machine.started in
        let does : DoesScheduled s (events.Step r) answer t = record {
          step = subst (λ z. Answers z s.machine (events.Step r) answer t.machine) (sym (going step.run step.there step.going)) step;
          first = tt;
          oldest = oldest-none s.machine.store s.machine.store refl;
          lists = lists-same (Some later) s.machine.started;
        } in
        record {
          next = t;
          does = does;
          matches = steps (with_run r (Some new) w) s t (events.Step r) answer
              sim.scheduled does (run-world w s x r (Some old) (Some b.0) (Some new) (Some later) s.machine.started at
              b.1 h);
        }

  -- a step whose first half changed the store
  pub halves_simulate : (store : Store) (u : WorldView) (y : RefinesSchedule u (half s store)) (run later : Run)
      (old new : RunView) (answer : Answer) → run_at s.machine.runs r ≡ Some run →
      slice_get u.runs r ≡ Some (Some old) → RunRefines y.slots store.elements s.machine.programs new later →
      TakesOldest s.machine.store store → StepsRun s.machine r answer
      (with_runs (with_store s.machine store) (slice_set s.machine.runs r (Some later))) →
      Simulates s (events.Step r) (answer, with_run r (Some new) u)
  halves_simulate store u y run later old new answer run_is at h oldest step =
      let b = run-behind y.slots store.elements s.machine.programs old (slice_get u.runs r) (slice_get s.machine.runs r) at (y.runs r) in
      let t : Schedule = run-changed (half s store) r (Some later) s.machine.started in
      let does : DoesScheduled s (events.Step r) answer t = record {
        step = subst (λ z. Answers z s.machine (events.Step r) answer t.machine) (sym (going step.run step.there step.going)) step;
        first = tt;
        oldest = oldest;
        lists = refl;
      } in
      record {
        next = t;
        does = does;
        matches = steps (with_run r (Some new) u) s t (events.Step r) answer
            sim.scheduled does (run-world u (half s store) y r (Some old) (Some b.0) (Some new) (Some later)
            s.machine.started at b.1 h);
      }

  -- registers after a call without a result
  nothing-word : (a b : Bool) (v : Value) (word : ℕ) → WordIs (element_bases x.slots s.machine.store.elements) v word
      → WordIs (element_bases x.slots s.machine.store.elements) (if a then Nothing else if b then Nothing else v) word
  nothing-word true b v word h = tt
  nothing-word false true v word h = tt
  nothing-word false false v word h = h

  module _ (run : Run) (old : RunView) (imm : ℤ) (run_is : run_at s.machine.runs r ≡ Some run)
      (at : slice_get w.runs r ≡ Some (Some old)) (alive : run.exit ≡ None)
      (insn : insn_at run.program.code run.state.place ≡ Some (Call kinds.Kernel imm)) where
    refines : RunRefines x.slots s.machine.store.elements s.machine.programs old run
    refines = let b = there old at in subst (RunRefines x.slots s.machine.store.elements s.machine.programs old)
        (same_Some b.0 run (ap option_flatten (sym b.1) ∙ run_is)) b.2

    call-step : (later : Run) → KernelStep (kernel_function_of imm) run later →
        StepsRun s.machine r Moved (with_runs s.machine (slice_set s.machine.runs r (Some later)))
    call-step later k = record {
      run = run;
      there = run_is;
      going = alive;
      new_store = s.machine.store;
      new_run =
          later;
      step = (
        Call kinds.Kernel imm,
        insn,
        of_kind (Call kinds.Kernel imm) s.machine.store
            (open_sections s.machine.runs) run Moved s.machine.store later (k, refl, refl),
      );
      new_is = refl;
    }

    pub lock_simulates : kernel_function_of imm ≡ Some ReadLock → run.depth < MAX_DEPTH →
        Simulates s (events.Step r) (Moved, with_run r (Some (locked_view old)) w)
    lock_simulates f room =
        let h = refines in
        let later : Run = moves (locked run) (returns Nothing run.state) in
        move_simulates run later old (locked_view old) Moved run_is at (record {
          program = h.program;
          words = record {
            context = h.words.context;
            register_count = h.words.register_count;
            registers = λ q less. nothing-word (q == 0) (nat_le q 5) (run.state.regs q) (slice_index old.registers q) (h.words.registers q less);
            cells = h.words.cells;
            frame = h.words.frame;
            place = ap (λ n. n + 1) h.words.place;
            depth = ap (λ n. n + 1) h.words.depth;
            moved = ap (λ n. n + 1) h.words.moved;
            exit = h.words.exit;
          };
        }) (call-step later (subst (λ o. KernelStep o run later) (sym f) (room, refl)))

    pub unlock_simulates : kernel_function_of imm ≡ Some ReadUnlock → 0 < run.depth →
        Simulates s (events.Step r) (Moved, with_run r (Some (unlocked_view old)) w)
    unlock_simulates f inside =
        let h = refines in
        let later : Run = moves (unlocked run) (returns Nothing run.state) in
        move_simulates run later old (unlocked_view old) Moved run_is at (record {
          program = h.program;
          words = record {
            context = h.words.context;
            register_count = h.words.register_count;
            registers = λ q less. nothing-word (q == 0) (nat_le q 5) (run.state.regs q) (slice_index old.registers q) (h.words.registers q less);
            cells = h.words.cells;
            frame = h.words.frame;
            place = ap (λ n. n + 1) h.words.place;
            depth = ap (λ n. n - 1) h.words.depth;
            moved = ap (λ n. n + 1) h.words.moved;
            exit = h.words.exit;
          };
        }) (call-step later (subst (λ o. KernelStep o run later) (sym f) (inside, refl)))

  pub dropped_run : (n : ℕ) (old : RunView) → slice_get w.runs r ≡ Some (Some old) → old.exit ≡ Some n → Simulates s (events.Drop r) (Done, with_run r None w)
  dropped_run n old at ended =
      let b = there old at in
      let t : Schedule = run-changed s r None s.machine.started in
      let pass : refusal s.machine (events.Drop r) ≡ None = ap (λ o. drop_refusal (option_flatten o)) b.1 ∙ ap if_running (sym b.2.words.exit ∙ ended) in
      let does : DoesScheduled s (events.Drop r) Done t = record {
        step = subst (λ z. Answers z s.machine (events.Drop r) Done t.machine) (sym pass) refl;
        first = tt;
        oldest = oldest-none s.machine.store s.machine.store refl;
        lists = lists-same None s.machine.started;
      } in
      record {
        next = t;
        does = does;
        matches = steps (with_run r None w) s t (events.Drop r) Done sim.scheduled does
            (run-world w s x r (Some old) (Some b.0) None None s.machine.started at b.1 tt);
      }
