-- Each run of a reached machine has made the steps of its program from the start: what it may still exit with, or has exited with, is an exit of a fresh run.
use Rattle.bpf_model.proofs.Prelude.{◌≡◌, ℕ, suc, List, Some, None, refl, sym, ap, subst, ◌∙◌, slice_get, none-some, same_Some, HasNoMaps, MapState, Loaded}
use Rattle.bpf_model.proofs.Prelude.{Run, Machine, fresh_run, open_sections, run_at, RunStep, DoesEvent, IsReal, IsReachedSchedule, RunRefines, run-behind}
use Rattle.bpf_model.proofs.Prelude.{Schedule, start_schedule, WorldView, shapes_of, option_flatten}
use Rattle.model_laws.proofs.Prelude.{Insn, Event, Answer, Moved, Exited, MAX_RUNS, MapShape}
use Rattle.plan_laws.proofs.Prelude.{MayExitFrom, MayExitWith, may_exit_now, may_exit_later, AreMapsBound, Surrounds, IsWell, AreVerified}
use Rattle.world_laws.proofs.Prelude.{HasExited, IsWorld, MayExitAs, ExitsAs}
use Rattle.model_laws.proofs.Keeping.{no-run}
use Rattle.model_laws.proofs.Moves.{Changes, Goes, Locks, Unlocks, Ends, changed-insn}
use Rattle.model_laws.proofs.Stores.{KeepsShapes, does-moves}
use Rattle.plan_laws.proofs.Bound.{bound-alike}
use Rattle.world_laws.proofs.Binding.{bound-behind}
use Rattle.plan_laws.proofs.Exits.{exits_alone}
use Rattle.plan_laws.proofs.Coming.{Comes, Stands, Starting, Stepping, does-come}
use Rattle.plan_laws.proofs.Reaching.{bound-kept, kept-last, keeps_well, starts_well, surrounds}

-- an exit of the run's program on its context
abbrev MayExit : List MapShape → Run → ℕ → Type 0
MayExit shapes run n = (steps : ℕ) × MayExitWith shapes run.program run.context steps n

-- among maps in these states
pub record HasLived (states : List MapState) (run : Run) : Type 0 where
  pub going : (shapes : List MapShape) → AreMapsBound shapes run.program.maps states → run.exit ≡ None → (steps n : ℕ) →
      MayExitFrom shapes run steps n → MayExit shapes run n
  pub ended : (n : ℕ) → run.exit ≡ Some n → (shapes : List MapShape) × AreMapsBound shapes run.program.maps states × MayExit shapes run n

lived-fresh : (states : List MapState) (name : ℕ) (program : Loaded) (context : List ℕ) → HasLived states (fresh_run name program context)
lived-fresh states name program context = record {
  going = λ shapes bound going steps n x. (steps, (name, x));
  ended = λ n e. absurd (none-some n e);
}

-- The run goes on as one of the same program on the same context.
pub record StaysRun (old new : Run) : Type 0 where
  pub program : new.program ≡ old.program
  pub context : new.context ≡ old.context
  pub exit : new.exit ≡ old.exit

-- A step moves the run on, or ends it.
pub data MovesOrEnds (old : Run) (answer : Answer) (new : Run) : Type 0 where
  Further : answer ≡ Moved → StaysRun old new → MovesOrEnds old answer new
  Ended : (n : ℕ) → answer ≡ Exited n → new.program ≡ old.program → new.context ≡ old.context → new.exit ≡ Some n → MovesOrEnds old answer new

further : (old mid new : Run) (answer : Answer) → answer ≡ Moved → new ≡ mid → StaysRun old mid → MovesOrEnds old answer new
further old mid new answer e f g = Further e (subst (StaysRun old) (sym f) g)

moves-or-ends : (run : Run) (answer : Answer) (new : Run) → Changes run answer new → MovesOrEnds run answer new
moves-or-ends run answer new (Goes next e f) = further run _ new answer e f (record { program = refl; context = refl; exit = refl })
moves-or-ends run answer new (Locks next room e f) = further run _ new answer e f (record { program = refl; context = refl; exit = refl })
moves-or-ends run answer new (Unlocks next inside e f) = further run _ new answer e f (record { program = refl; context = refl; exit = refl })
moves-or-ends run answer new (Ends n out e f) = Ended n e (ap (λ (x : Run). x.program) f) (ap (λ (x : Run). x.context) f) (ap (λ (x : Run). x.exit) f)

-- an exit of the run's program is one of the next run's, which is of the same
same-exits : (shapes : List MapShape) (old new : Run) (n : ℕ) → new.program ≡ old.program → new.context ≡ old.context →
    MayExit shapes old n → MayExit shapes new n
same-exits shapes old new n p c x = (x.0, subst (λ (z : Loaded × List ℕ). MayExitWith shapes z.0 z.1 x.0 n) (λ i. (sym p i, sym c i)) x.1)

-- all runs of a machine
abbrev pub AllLived : Machine → Type 0
AllLived m = (r : ℕ) (run : Run) → run_at m.runs r ≡ Some run → HasLived m.store.maps run

module _ (m new : Machine) (w : IsWell m) (shapes_stay : KeepsShapes m.store.maps new.store.maps) where
  -- the shapes to which a run's program is bound are those that it was verified for
  bound-as : (r : ℕ) (run : Run) (at : run_at m.runs r ≡ Some run) (going : run.exit ≡ None) (shapes : List MapShape) →
      AreMapsBound shapes run.program.maps new.store.maps → (w.runs r run at going).safe.shapes ≡ shapes
  bound-as r run at going shapes bound =
      let t = w.runs r run at going in
      bound-alike t.safe.shapes shapes run.program.maps new.store.maps
      (bound-kept t.safe.shapes run.program.maps m.store.maps new.store.maps shapes_stay t.safe.bound) bound

  -- a run that makes no step
  lived-kept : (r : ℕ) (run : Run) → run_at m.runs r ≡ Some run → HasLived m.store.maps run → HasLived new.store.maps run
  lived-kept r run at lived = record {
    going = λ shapes bound going. lived.going shapes
        (subst (λ l. AreMapsBound l run.program.maps m.store.maps) (bound-as r run at going shapes bound) (w.runs r run at going).safe.bound) going;
    ended = λ n e. let x = lived.ended n e in (x.0, bound-kept x.0 run.program.maps m.store.maps new.store.maps shapes_stay x.1, x.2);
  }

  lived-step : (r : ℕ) (old run : Run) (answer : Answer) → run_at m.runs r ≡ Some old → (going : old.exit ≡ None) → HasLived m.store.maps old →
      RunStep m.store (open_sections m.runs) old answer new.store run → MovesOrEnds old answer run → HasLived new.store.maps run
  lived-step r old run answer at going lived h (Further e g) =
      let step : RunStep m.store (open_sections m.runs) old Moved new.store run =
      subst (λ (a : Answer). RunStep m.store (open_sections m.runs) old a new.store run) e h in
      let t = w.runs r old at going in
      record {
        going = λ shapes bound on steps n x.
            let is = bound-as r old at going shapes (subst (λ (p : Loaded). AreMapsBound shapes p.maps new.store.maps) g.program bound) in
            let around = subst (λ l. Surrounds l old.program.context_len m.store (open_sections m.runs) old) is (surrounds m r old w at going t) in
            same-exits shapes old run n g.program g.context
            (lived.going shapes (subst (λ l. AreMapsBound l old.program.maps m.store.maps) is t.safe.bound) going (suc steps) n
            (may_exit_later m.store new.store (open_sections m.runs) old run steps n around step x));
        ended = λ n done. absurd (none-some n (sym (g.exit ∙ going) ∙ done));
      }
  lived-step r old run answer at going lived h (Ended n e p c x) =
      let step : RunStep m.store (open_sections m.runs) old (Exited n) new.store run =
      subst (λ (a : Answer). RunStep m.store (open_sections m.runs) old a new.store run) e h in
      let t = w.runs r old at going in
      let exit : MayExit t.safe.shapes run n = same-exits t.safe.shapes old run n p c (lived.going t.safe.shapes t.safe.bound going 1 n
      (may_exit_now m.store new.store (open_sections m.runs) old run n (surrounds m r old w at going t) step)) in
      record {
        going = λ shapes bound on steps k y. absurd (none-some n (sym on ∙ x));
        ended = λ k done. let same : n ≡ k = same_Some n k (sym x ∙ done) in (
          t.safe.shapes,
          subst (λ (q : Loaded). AreMapsBound t.safe.shapes q.maps new.store.maps) (sym p)
              (bound-kept t.safe.shapes old.program.maps m.store.maps new.store.maps shapes_stay t.safe.bound),
          subst (MayExit t.safe.shapes run) same exit,
        );
      }

  lived-come : (r : ℕ) (run : Run) → AllLived m → Comes m new r run → HasLived new.store.maps run
  lived-come r run all (Stands at) = lived-kept r run at (all r run at)
  lived-come r run all (Starting f) = subst (HasLived new.store.maps) f.is (lived-fresh new.store.maps m.started f.program f.context)
  lived-come r run all (Stepping s) = lived-step r s.old run s.answer s.there s.going (all r s.old s.there) s.step
      (moves-or-ends s.old s.answer run (changed-insn s.step.0 m.store (open_sections m.runs) s.old s.answer new.store run s.step.2))

all-lived : (m new : Machine) (event : Event) (answer : Answer) → IsReal event → IsWell m → AllLived m → DoesEvent m event answer new → AllLived new
all-lived m new event answer real w all h r run at =
    lived-come m new w (does-moves m new event answer w.consistent.single w.consistent.lengths h).shapes r run all
    (does-come m new event answer real h r run at)

lived-start : (shapes : List MapShape) (programs : List Loaded) → AllLived (start_schedule shapes programs).machine
lived-start shapes programs r run at = absurd (no-run MAX_RUNS r run at)

-- a reached machine of verified programs, all of whose runs have lived so
abbrev HasLivedWell : Machine → Type 0
HasLivedWell m = IsWell m × AllLived m

stays-lived : (m new : Machine) (event : Event) (answer : Answer) → IsReal event → DoesEvent m event answer new → HasLivedWell m → HasLivedWell new
stays-lived m new event answer real h w = (keeps_well m new event answer w.0 real h, all-lived m new event answer real w.0 w.1 h)

reached_has_lived : (shapes : List MapShape) (programs : List Loaded) (s : Schedule) → AreVerified shapes programs →
    IsReachedSchedule shapes programs s → AllLived s.machine
reached_has_lived shapes programs s safe r =
    let start = start_schedule shapes programs in
    let w = kept-last HasLivedWell stays-lived start r.events r.answers r.states
    (starts_well shapes programs r.limits safe, lived-start shapes programs) r.real r.history in
    subst (λ (x : Schedule). AllLived x.machine) r.last w.1

module _ (w : WorldView) (r : ℕ) (code : List Insn) (shapes : List MapShape) (context_len : ℕ) (context : List ℕ)
    (n : ℕ) (is : IsWorld w) (h : HasExited w r code shapes context_len context n) where
  stands : (run : Run) × (slice_get is.schedule.machine.runs r ≡ Some (Some run)) ×
      RunRefines is.tracks.refines.slots is.schedule.machine.store.elements is.schedule.machine.programs h.run run
  stands = run-behind is.tracks.refines.slots is.schedule.machine.store.elements is.schedule.machine.programs h.run
      (slice_get w.runs r) (slice_get is.schedule.machine.runs r) h.there (is.tracks.refines.runs r)

  same-program : stands.0.program ≡ h.program
  same-program = same_Some stands.0.program h.program (sym stands.2.program ∙
      (ap (λ (ps : List Loaded). slice_get ps h.run.program) (sym is.tracks.refines.programs) ∙ h.loaded))

  pub may_exit_as : MayExitAs code shapes context n
  may_exit_as =
      let x = (reached_has_lived (shapes_of w) w.programs is.schedule is.ready.verified
      is.tracks.reached r stands.0 (ap option_flatten stands.1)).ended n (sym stands.2.words.exit ∙ h.ended) in
      let asked : AreMapsBound shapes stands.0.program.maps is.schedule.machine.store.maps =
      subst (λ (l : Loaded). AreMapsBound shapes l.maps is.schedule.machine.store.maps) (sym same-program)
      (bound-behind w is.schedule is.tracks.refines shapes h.program.maps h.bound) in
      let same : x.0 ≡ shapes = bound-alike x.0 shapes stands.0.program.maps is.schedule.machine.store.maps x.1 asked in
      record {
        program = stands.0.program;
        code_is = ap (λ (l : Loaded). l.code) same-program ∙ h.code_is;
        steps = x.2.0;
        exits = subst (λ (l : List MapShape). MayExitWith l stands.0.program context x.2.0 n) same
            (subst (λ (c : List ℕ). MayExitWith x.0 stands.0.program c x.2.0 n) (sym stands.2.words.context ∙ h.context_is) x.2.1);
      }

-- without map references it is the one exit
pub exits_as : (code : List Insn) (shapes : List MapShape) (context : List ℕ) (n : ℕ) → HasNoMaps code →
    MayExitAs code shapes context n → ExitsAs code context n
exits_as code shapes context n none x = record {
  program = x.program;
  code_is = x.code_is;
  steps = x.steps;
  exits = exits_alone shapes x.program context x.steps n (subst HasNoMaps (sym x.code_is) none) x.exits;
}
