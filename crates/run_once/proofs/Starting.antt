-- The updates that come before, and the start of the run in run slot 0.
use Rattle.bpf_model.proofs.Prelude.{◌≡◌, ◌∙◌, ℕ, ◌<◌, List, [], ◌∷◌, length, Option, Some, None, refl, sym, ap, subst, arith, All, slice_get, slice_set}
use Rattle.bpf_model.proofs.Prelude.{if◌then◌else◌, eq-eqb, none-some, same_Some, All-tail, Loaded, Run, Machine, fresh_run, lowest_free, run_at, NeverStuck}
use Rattle.bpf_model.proofs.Prelude.{PerformsEvent, Answers, DoesEvent, Starts, refusal, start_refusal, AllExitInTime, AnswersAsMachine, AreNeverStuck}
use Rattle.bpf_model.proofs.Prelude.{ExitsInTime, moved_by, moves_of, AllStates, IsHistory, last_of, Tracks, WorldView}
use Rattle.model_laws.proofs.Prelude.{Insn, MapShape, Event, Answer, Started, Ret, EventRefusal, BadContext}
use Rattle.bpf_model.specs.declared.event.Event.TheVariants.{Update}
use Rattle.run_once.specs.Going.{IsGoing, IsReady}
use Rattle.run_once.specs.Once.{IsUpdate, bound_to_all, start_on, start_with}

module _ (count len : ℕ) where
  -- an update changes neither runs nor programs
  updated : (m next : Machine) → IsReady m count len → next.runs ≡ m.runs → next.programs ≡ m.programs → IsReady next count len
  updated m next r runs programs = record {
    program = r.program;
    loaded = ap (λ l. slice_get l 0) programs ∙ r.loaded;
    free = ap lowest_free runs ∙ r.free;
    of = r.of;
    fits = r.fits;
  }

  performs-update : (m next : Machine) (map : ℕ) (key value : _) (flags : ℕ) (answer : Answer) → IsReady m count len →
      PerformsEvent m (Update map key value flags) answer next → IsReady next count len
  performs-update m next map key value flags (Ret ret) r h = updated m next r (ap (λ x. x.runs) h.2) (ap (λ x. x.programs) h.2)
  performs-update m next map key value flags answer r h = absurd h

  does-update : (o : Option EventRefusal) (m next : Machine) (map : ℕ) (key value : _) (flags : ℕ) (answer : Answer) →
      IsReady m count len → Answers o m (Update map key value flags) answer next → IsReady next count len
  does-update None m next map key value flags answer r h = performs-update m next map key value flags answer r h
  does-update (Some k) m next map key value flags answer r h = updated m next r (ap (λ x. x.runs) h.1) (ap (λ x. x.programs) h.1)

  -- behind the updates the run can be started
  pub ready_behind : (m : Machine) (before : List Event) (given : List Answer) (states : List Machine) →
      All IsUpdate before → IsReady m count len → IsHistory m before given states → IsReady (last_of m states) count len
  ready_behind m [] [] [] all r h = r
  ready_behind m (Update map key value flags ∷ before) (answer ∷ given) (next ∷ states) all r h =
      ready_behind next before given states (All-tail IsUpdate (Update map key value flags) before all)
      (does-update (refusal m (Update map key value flags)) m next map key value flags answer r h.0) h.1
  ready_behind m (event ∷ before) (answer ∷ given) (next ∷ states) all r h = absurd (all 0 event (omega arith))
  ready_behind m before given states all r h = absurd h

set-free : (runs : List (Option Run)) (new : Run) → lowest_free runs ≡ Some 0 → run_at (slice_set runs 0 (Some new)) 0 ≡ Some new
set-free [] new h = absurd (none-some 0 h)
set-free (x ∷ runs) new h = refl

-- The run in run slot 0 is of the program, and has made no step.
record IsFresh (next : Machine) (program : Loaded) : Type 0 where
  run : Run
  there : run_at next.runs 0 ≡ Some run
  of : run.program ≡ program
  unmoved : run.moved ≡ 0
  going : run.exit ≡ None

module _ (m next : Machine) (context : List ℕ) (count : ℕ) (r : IsReady m count (length context)) where
  starts : (q : ℕ) → Starts m 0 context q next → (Started q ≡ Started 0) × IsFresh next r.program
  starts q h =
      let slot : q ≡ 0 = same_Some q 0 (sym h.lowest ∙ r.free) in
      let fresh = fresh_run m.started h.program context in (
        ap Started slot,
        record {
          run = fresh;
          there = ap (λ (x : Machine). run_at x.runs 0) h.new_is
              ∙ (ap (λ k. run_at (slice_set m.runs k (Some fresh)) 0) slot ∙ set-free m.runs fresh r.free);
          of = same_Some h.program r.program (sym h.there ∙ r.loaded);
          unmoved = refl;
          going = refl;
        },
      )

  performs : (answer : Answer) → PerformsEvent m (start_on context) answer next → (answer ≡ Started 0) × IsFresh next r.program
  performs (Started q) h = starts q h
  performs answer h = absurd h

  allowed : refusal m (start_on context) ≡ None
  allowed =
      ap (λ p. start_refusal p (length context) (lowest_free m.runs)) r.loaded
      ∙ (ap (λ f. start_refusal (Some r.program) (length context) f) r.free
      ∙ ap (λ b. if b then None else Some BadContext) (eq-eqb (length context) r.program.context_len (sym r.fits)))

  -- The run is started, and goes on.
  pub started : (answer : Answer) → DoesEvent m (start_on context) answer next →
      ExitsInTime m (start_on context ∷ []) (answer ∷ []) (next ∷ []) → AllStates NeverStuck (m ∷ next ∷ []) →
      (answer ≡ Started 0) × IsGoing next count 0
  started answer does time never =
      let (told, f) = performs answer (subst (λ o. Answers o m (start_on context) answer next) allowed does) in
      let stuck = never.1.0 0 f.run f.there f.going in
      let less = time 1 0 next f.run refl f.there in
      let of_answer = subst (λ (a : Answer). moves_of 0 (moved_by (run_at m.runs 0)) (start_on context ∷ []) (a ∷ [])
      < length f.run.program.code) told less in
      let of_program = subst (λ (p : Loaded). 0 < length p.code) f.of of_answer in (
        told,
        record {
          run = f.run;
          there = f.there;
          of = ap (λ (p : Loaded). length p.code) f.of ∙ r.of;
          has_moved = f.unmoved;
          in_time = subst (λ n. 0 < n) r.of of_program;
          going = f.going;
          insn = stuck.3.0;
          here = stuck.3.1;
        },
      )

-- what a world shows of that
pub started_in : (w new : WorldView) (context : List ℕ) (count : ℕ) (answer : Answer) → AnswersAsMachine Tracks w (start_on context) answer new →
    AreNeverStuck Tracks w (start_on context ∷ []) (answer ∷ []) → AllExitInTime Tracks w (start_on context ∷ []) (answer ∷ []) →
    (m : Machine) → Tracks w m → IsReady m count (length context) →
    (next : Machine) × DoesEvent m (start_on context) (Started 0) next × Tracks new next × IsGoing next count 0
started_in w new context count answer machine never time m tracks r =
    let (next, does, tracked) = machine m tracks in
    let s = started m next context count r answer does (time m tracks (next ∷ []) (does, tt)) (never m tracks (next ∷ []) (does, tt)) in
    (next, subst (λ (a : Answer). DoesEvent m (start_on context) a next) s.0 does, tracked, s.1)

-- program 0 can be started on a context of its length in a world of it alone
pub ready_at_start : (shapes : List MapShape) (program : List Insn) (context : List ℕ) →
    IsReady (start_with shapes program context) (length program) (length context)
ready_at_start shapes program context =
    record { program = bound_to_all (length shapes) program (length context); loaded = refl; free = refl; of = refl; fits = refl }
