-- A machine of verified programs stays well, and is never stuck.
use Rattle.bpf_model.proofs.Prelude.{◌≡◌, ℕ, suc, ◌+◌, ◌<◌, ◌⊎◌, inl, inr, arith, List, [], ◌∷◌, length, Some, None, refl, sym, ap, subst, ◌∙◌, slice_get}
use Rattle.bpf_model.proofs.Prelude.{start-inside, starts_apart, State, Section, MapState, Store, AreShapes, Loaded, Run, Machine, open_sections, fresh_run}
use Rattle.bpf_model.proofs.Prelude.{run_at, start_machine, moves, locked, unlocked, InsnStep, RunStep, StepsRun, NeverStuck, DoesEvent, AreBytes, IsReal}
use Rattle.bpf_model.proofs.Prelude.{AreReal, AllBytes, IsHistory, AllStates, last_of, Schedule, IsScheduledHistory, start_schedule, AreNeverStuck}
use Rattle.bpf_model.proofs.Prelude.{moved_once, WorldView, IsReachedSchedule, Tracks, shapes_of}
use Rattle.model_laws.proofs.Prelude.{MapShape, MAX_RUNS, Insn, Event, Answer, Moved, Exited}
use Rattle.plan_laws.proofs.Prelude.{Scene, scene_of, Plan, AreMapsBound, Surrounds, IsPlanned, IsPlannedAfter, IsClosed, IsVerified, AreVerified}
use Rattle.plan_laws.proofs.Prelude.{IsVerifiedFor, IsTyped, IsWell}
use Rattle.model_laws.proofs.Sections.{has_open}
use Rattle.model_laws.proofs.Changing.{is_reap}
use Rattle.model_laws.proofs.Stores.{KeepsShapes, StoreMoves, does-moves}
use Rattle.model_laws.proofs.Keeping.{no-run, starts_consistent, stays_consistent}
use Rattle.model_laws.proofs.Moves.{Changes, Goes, Locks, Unlocks, Ends, changed-insn}
use Rattle.plan_laws.proofs.Arrays.{linked-kept}
use Rattle.plan_laws.proofs.Kept.{Keeps, keeps-moves, describes-kept}
use Rattle.plan_laws.proofs.Coming.{FreshRun, Comes, Stands, Starting, Stepping, does-come}
use Rattle.plan_laws.proofs.Valued.{bytes-start, does-bytes, does-programs}

pub bound-kept : (shapes : List MapShape) (maps : List ℕ) (old new : List MapState) → KeepsShapes old new →
    AreMapsBound shapes maps old → AreMapsBound shapes maps new
bound-kept shapes maps old new k b = record {
  count = b.count;
  each = λ i shape at. let x = b.each i shape at in let y = k x.0 x.1 x.3 in (x.0, y.0, x.2, y.1, y.2 ∙ x.4);
}

abbrev pub safe-kept : (old new : List MapState) (program : Loaded) → KeepsShapes old new → IsVerifiedFor old program → IsVerifiedFor new program
safe-kept old new program k x = record { shapes = x.shapes; bound = bound-kept x.shapes program.maps old new k x.bound; verified = x.verified }

planned-kept : (run : Run) (index : ℕ) (c d : Scene) (k : Keeps c d) (plan : Plan) →
    IsPlanned run.program.code plan index c run.state → IsPlanned run.program.code plan index d run.state
planned-kept run index c d k plan p = record { at = p.at; known = p.known; planned = p.planned; describes = describes-kept c d k p.known run.state p.describes }

-- a run that makes no step
typed-kept : (s new : Store) (run : Run) → Keeps (scene_of s run) (scene_of new run) → KeepsShapes s.maps new.maps → IsTyped s run → IsTyped new run
typed-kept s new run k shapes t = record {
  safe = safe-kept s.maps new.maps run.program shapes t.safe;
  long = t.long;
  context = t.context;
  index = t.index;
  planned = λ v. planned-kept run t.index (scene_of s run) (scene_of new run) k v.plan (t.planned v);
  moved = t.moved;
}

-- A step keeps the program and the context; it counts a move, and the run goes on as it was, or it ends the run and counts none.
pub record SameProgram (old : Run) (answer : Answer) (new : Run) : Type 0 where
  pub program : new.program ≡ old.program
  pub context : new.context ≡ old.context
  pub counts : new.moved ≡ old.moved + moved_once answer
  pub moved : ((new.moved ≡ old.moved + 1) × (new.exit ≡ old.exit)) ⊎ (new.moved ≡ old.moved)

same-along : (old mid new : Run) (answer same : Answer) → answer ≡ same → new ≡ mid → SameProgram old same mid → SameProgram old answer new
same-along old mid new answer same e f h = subst (λ x. SameProgram old x new) (sym e) (subst (SameProgram old same) (sym f) h)

same-moves : (old mid : Run) → mid.program ≡ old.program → mid.context ≡ old.context → mid.moved ≡ old.moved + 1 →
    mid.exit ≡ old.exit → SameProgram old Moved mid
same-moves old mid p c m e = record { program = p; context = c; counts = m; moved = inl (m, e) }

same-changed : (run : Run) (answer : Answer) (new : Run) → Changes run answer new → SameProgram run answer new
same-changed run answer new (Goes next e f) = same-along run _ new answer Moved e f (same-moves run (moves run next) refl refl refl refl)
same-changed run answer new (Locks next room e f) = same-along run _ new answer Moved e f (same-moves run (moves (locked run) next) refl refl refl refl)
same-changed run answer new (Unlocks next inside e f) = same-along run _ new answer Moved e f (same-moves run (moves (unlocked run) next) refl refl refl refl)
same-changed run answer new (Ends n out e f) = same-along run _ new answer (Exited n) e f
    (record { program = refl; context = refl; counts = omega arith; moved = inr refl })

pub same-insn : (i : Insn) (s : Store) (opened : List Section) (run : Run) (answer : Answer) (new_store : Store)
    (new : Run) → InsnStep i s opened run answer new_store new → SameProgram run answer new
same-insn i s opened run answer new_store new h = same-changed run answer new (changed-insn i s opened run answer new_store new h)

-- what is so around a run
pub surrounds : (m : Machine) (r : ℕ) (run : Run) → IsWell m → run_at m.runs r ≡ Some run → run.exit ≡ None →
    (t : IsTyped m.store run) → Surrounds t.safe.shapes run.program.context_len m.store (open_sections m.runs) run
surrounds m r run w at going t = record {
  going = going;
  section = λ inside. has_open m.runs r run at inside;
  single = w.consistent.single;
  lengths = w.consistent.lengths;
  arrays = λ n e at. linked-kept m.store.maps e (w.consistent.arrays n e at);
  bytes = w.bytes;
  bound = t.safe.bound;
  long = t.long;
  context = t.context;
}

pub well_never_stuck : (m : Machine) → IsWell m → NeverStuck m
well_never_stuck m w r run at going =
    let t = w.runs r run at going in
    let g = t.safe.verified.closed.goes t.index m.store (open_sections m.runs) run (surrounds m r run w at going t) (t.planned t.safe.verified) in
    (g.2.0, g.2.1, g.2.2, (g.0, g.1, g.2.3))

-- a verification of a program against the shapes that a run's program was verified for
abbrev Verifies : (s : Store) (run : Run) → IsTyped s run → Type 0
Verifies s run t = IsVerified run.program.code t.safe.shapes run.program.context_len

-- what a verification of its program says of a step
stepped : (m : Machine) (r : ℕ) (run : Run) (answer : Answer) (new_store : Store) (new_run : Run) (w : IsWell m)
    (at : run_at m.runs r ≡ Some run) (going : run.exit ≡ None) (t : IsTyped m.store run) (v : Verifies m.store run t)
    → RunStep m.store (open_sections m.runs) run answer new_store new_run →
    AllBytes new_store.elements × (new_run.exit ≡ None → IsPlannedAfter run.program.code v.plan t.index (scene_of new_store new_run) new_run.state)
stepped m r run answer new_store new_run w at going t v h =
    v.closed.leads t.index h.0 m.store (open_sections m.runs) run answer new_store new_run (surrounds m r run w at going t) (t.planned v) h.1 h.2

-- two plans find a run at one index
index-alike : (code : List Insn) (a b : Plan) (j k : ℕ) (c : Scene) (x : State) → IsPlanned code a j c x → IsPlanned code b k c x → IsPlanned code a k c x
index-alike code a b j k c x p q = subst (λ i. IsPlanned code a i c x) (starts_apart 0 code j k x.place p.at q.at) p

-- the run that made the step
typed-stepped : (m : Machine) (new_store : Store) (run : Run) (answer : Answer) (new_run : Run) →
    KeepsShapes m.store.maps new_store.maps → SameProgram run answer new_run → (t : IsTyped m.store run) →
    ((v : Verifies m.store run t) → IsPlannedAfter run.program.code v.plan t.index (scene_of new_store new_run) new_run.state) → IsTyped new_store new_run
typed-stepped m new_store run answer new_run shapes same t p =
    let first = p t.safe.verified in
    let scene = scene_of new_store new_run in record {
      safe = record {
        shapes = t.safe.shapes;
        bound = subst (λ (x : Loaded). AreMapsBound t.safe.shapes x.maps new_store.maps) (sym same.program)
            (bound-kept t.safe.shapes run.program.maps m.store.maps new_store.maps shapes t.safe.bound);
        verified = record {
          plan = t.safe.verified.plan;
          closed = subst (λ (x : Loaded). IsClosed x.code t.safe.shapes x.context_len t.safe.verified.plan) (sym same.program) t.safe.verified.closed;
        };
      };
      long = ap length same.context ∙ (t.long ∙ ap (λ x. x.context_len) (sym same.program));
      context = subst AreBytes (sym same.context) t.context;
      index = first.index;
      planned = subst (λ (x : Loaded). (v : IsVerified x.code t.safe.shapes x.context_len) →
          IsPlanned x.code v.plan first.index scene new_run.state) (sym same.program)
          (λ v. let q = p v in index-alike run.program.code v.plan t.safe.verified.plan q.index first.index scene new_run.state q.planned first.planned);
      moved = elim same.moved [
        | inl x ↦ omega (arith, x.0, t.moved, first.further)
        | inr x ↦ omega (arith, x, t.moved, first.further)
      ];
    }

-- a run that starts
typed-fresh : (m new : Machine) (run : Run) → IsWell m → KeepsShapes m.store.maps new.store.maps → FreshRun m new run → IsTyped new.store run
typed-fresh m new run w shapes f = subst (IsTyped new.store) f.is (
    let x = safe-kept m.store.maps new.store.maps f.program shapes (w.programs f.index f.program f.loaded) in record {
      safe = x;
      long = f.long;
      context = f.bytes;
      index = 0;
      planned = λ v. v.closed.start (scene_of new.store (fresh_run m.started f.program f.context)) refl;
      moved = omega arith;
    })

-- a run that hasn't ended has moved less than its program is long
pub typed-inside : (s : Store) (run : Run) → IsTyped s run → run.moved < length run.program.code
typed-inside s run t = let l = start-inside run.program.code t.index run.state.place (t.planned t.safe.verified).at in omega (arith, t.moved)

module _ (m new : Machine) (event : Event) (answer : Answer) (w : IsWell m) (real : IsReal event) (h : DoesEvent m event answer new) where
  mv : StoreMoves (is_reap event) (open_sections m.runs) m.store new.store
  mv = does-moves m new event answer w.consistent.single w.consistent.lengths h

  bytes-step : (r : ℕ) → StepsRun m r answer new → AllBytes new.store.elements
  bytes-step r g = subst (λ (s : Store). AllBytes s.elements) (ap (λ x. x.store) (sym g.new_is))
      (let t = w.runs r g.run g.there g.going in stepped m r g.run answer g.new_store g.new_run w g.there g.going t t.safe.verified g.step).0

  programs-new : (p : ℕ) (program : Loaded) → slice_get new.programs p ≡ Some program → IsVerifiedFor new.store.maps program
  programs-new p program at = safe-kept m.store.maps new.store.maps program mv.shapes
      (w.programs p program (ap (λ l. slice_get l p) (sym (does-programs m new event answer h)) ∙ at))

  typed-new : (r : ℕ) (run : Run) → run.exit ≡ None → Comes m new r run → IsTyped new.store run
  typed-new r run going (Stands at) = typed-kept m.store new.store run
      (keeps-moves (is_reap event) (open_sections m.runs) m.store new.store run
      (λ inside. has_open m.runs r run at inside) mv) mv.shapes (w.runs r run at going)
  typed-new r run going (Starting f) = typed-fresh m new run w mv.shapes f
  typed-new r run going (Stepping g) =
      let t = w.runs r g.old g.there g.going in
      typed-stepped m new.store g.old g.answer run mv.shapes (same-insn g.step.0 m.store (open_sections m.runs) g.old g.answer new.store run g.step.2) t
      (λ v. (stepped m r g.old g.answer new.store run w g.there g.going t v g.step).1 going)

  -- those that have ended too: an ended run moved less before, and ends without a move
  moved-new : (r : ℕ) (run : Run) → Comes m new r run → run.moved < length run.program.code
  moved-new r run (Stands at) = w.moved r run at
  moved-new r run (Starting f) = typed-inside new.store run (typed-fresh m new run w mv.shapes f)
  moved-new r run (Stepping g) =
      let same = same-insn g.step.0 m.store (open_sections m.runs) g.old g.answer new.store run g.step.2 in
      elim same.moved [
        | inl x ↦ typed-inside new.store run (typed-new r run (x.1 ∙ g.going) (Stepping g))
        | inr x ↦ let l = w.moved r g.old g.there in let e : length run.program.code ≡ length g.old.program.code =
            ap (λ (p : Loaded). length p.code) same.program in omega (arith, x)
      ]

  pub keeps_well : IsWell new
  keeps_well = record {
    consistent = stays_consistent m new event answer w.consistent h;
    bytes = does-bytes m new event answer real bytes-step w.bytes h;
    programs = programs-new;
    runs = λ r run at going. typed-new r run going (does-come m new event answer real h r run at);
    moved = λ r run at. moved-new r run (does-come m new event answer real h r run at);
  }

-- at the start
pub starts_well : (shapes : List MapShape) (programs : List Loaded) → AreShapes shapes → AreVerified shapes programs → IsWell (start_machine shapes programs)
starts_well shapes programs limits safe = record {
  consistent = starts_consistent shapes programs limits;
  bytes = bytes-start 0 shapes;
  programs = safe;
  runs = λ r run at going. absurd (no-run MAX_RUNS r run at);
  moved = λ r run at. absurd (no-run MAX_RUNS r run at);
}

pub real-rest : (event : Event) (events : List Event) → AreReal (event ∷ events) → AreReal events
real-rest event events real k e at = real (suc k) e at

-- in every history
pub well_along : (m : Machine) (events : List Event) (answers : List Answer) (states : List Machine) → IsWell m →
    AreReal events → IsHistory m events answers states → AllStates IsWell (m ∷ states)
well_along m [] [] [] w real h = (w, tt)
well_along m (event ∷ events) (answer ∷ answers) (next ∷ states) w real h =
    (w, well_along next events answers states (keeps_well m next event answer w (real 0 event refl) h.0) (real-rest event events real) h.1)
well_along m events answers states w real h = absurd h

pub all-states : (P Q : Machine → Type 0) (states : List Machine) → ((m : Machine) → P m → Q m) → AllStates P states → AllStates Q states
all-states P Q [] f h = tt
all-states P Q (m ∷ states) f h = (f m h.0, all-states P Q states f h.1)

pub never_stuck_along : (m : Machine) (events : List Event) (answers : List Answer) (states : List Machine) → IsWell m
    → AreReal events → IsHistory m events answers states → AllStates NeverStuck (m ∷ states)
never_stuck_along m events answers states w real h = all-states IsWell NeverStuck (m ∷ states) well_never_stuck (well_along m events answers states w real h)

-- with the runtime's choices
pub kept-last : (P : Machine → Type 0) → ((m new : Machine) (event : Event) (answer : Answer) → IsReal event → DoesEvent m event answer new → P m → P new)
    → (s : Schedule) (events : List Event) (answers : List Answer) (states : List Schedule) → P s.machine →
    AreReal events → IsScheduledHistory s events answers states → P (last_of s states).machine
kept-last P keeps s [] [] [] p real h = p
kept-last P keeps s (event ∷ events) (answer ∷ answers) (next ∷ states) p real h =
    kept-last P keeps next events answers states (keeps s.machine next.machine event answer (real 0 event refl) h.0.step p) (real-rest event events real) h.1
kept-last P keeps s events answers states p real h = absurd h

pub reached_is_well : (shapes : List MapShape) (programs : List Loaded) (s : Schedule) → AreVerified shapes programs →
    IsReachedSchedule shapes programs s → IsWell s.machine
reached_is_well shapes programs s safe r = subst (λ (x : Schedule). IsWell x.machine) r.last
    (kept-last IsWell (λ m new event answer real h w. keeps_well m new event answer w real h)
    (start_schedule shapes programs) r.events r.answers r.states (starts_well shapes programs r.limits safe) r.real
    r.history)

-- never stuck, of what a world tracks
pub tracked_never_stuck : (w : WorldView) (events : List Event) (answers : List Answer) →
    AreVerified (shapes_of w) w.programs → AreReal events → AreNeverStuck Tracks w events answers
tracked_never_stuck w events answers safe real m t states h =
    never_stuck_along m events answers states (subst IsWell t.1 (reached_is_well (shapes_of w) w.programs t.0 safe t.2.reached)) real h
