-- A run in a world that tracks the start.
use Rattle.bpf_model.proofs.Prelude.{◌≡◌, ◌∙◌, ◌≢◌, ℕ, suc, ◌<◌, ◌≤◌, List, ◌∷◌, [], length, Some, refl, subst, sym, ap, arith, All, Bool, slice_get}
use Rattle.bpf_model.proofs.Prelude.{range_with_len, AreMachineAnswers, IsHistory, last_of, Loaded, Machine, start_machine, Tracks, WorldView}
use Rattle.model_laws.proofs.Prelude.{Answer, Event, Insn, MapShape}
use Rattle.verifier.proofs.Prelude.{Checked}
use Rattle.world.proofs.Prelude.{programs_in}
use Rattle.world.specs.declared.kept.loaded.Loaded as world
use Rattle.run_once.specs.Going.{IsReady}
use Rattle.run_once.specs.Once.{Ended, AreDone, IsUpdate, RunsOnce, StartsAndExits, StopsAt, bound_to_all, done, start_with}
use Rattle.run_once.proofs.Starting.{ready_at_start, ready_behind}

-- the one loaded program of a world is bound to all of its maps
pub bound_program : (items : List world.Loaded) (l : world.Loaded) (v : Checked) (shapes : List MapShape)
    (context : List ℕ) → items ≡ l ∷ [] → l.verified ≡ v → l.maps.items ≡ range_with_len 0 (length v.shapes) →
    v.shapes ≡ shapes → length context ≡ v.ctx_len → programs_in items ≡ bound_to_all (length shapes) v.program
    (length context) ∷ []
bound_program items l v shapes context items_are verified_is maps_are shapes_are len_is =
    let of : Checked → List ℕ → List Loaded = λ x maps. record { code = x.program; maps = maps; context_len = x.ctx_len } ∷ [] in
    let with : List ℕ → ℕ → List Loaded = λ maps n. record { code = v.program; maps = maps; context_len = n } ∷ [] in
    ap programs_in items_are
    ∙ ap (λ x. of x l.maps.items) verified_is
    ∙ ap (λ maps. with maps v.ctx_len) maps_are
    ∙ ap (λ (ss : List MapShape). with (range_with_len 0 (length ss)) v.ctx_len) shapes_are
    ∙ ap (λ n. with (range_with_len 0 (length shapes)) n) (sym len_is)

-- a history has an answer for each event
as-many : (m : Machine) (events : List Event) (given : List Answer) (states : List Machine) → IsHistory m events given states →
    length events ≡ length given
as-many m [] [] [] h = refl
as-many m (event ∷ events) (answer ∷ given) (next ∷ states) h = ap suc (as-many next events given states h.1)
as-many m events given states h = absurd h

-- The world tracks the start, and then the state behind the updates.
module _ (w new : WorldView) (shapes : List MapShape) (programs : List Loaded) (program : List Insn) (before : List Event)
    (context : List ℕ) (given : List Answer) (tracks : Tracks w (start_machine shapes programs))
    (bound : programs ≡ bound_to_all (length shapes) program (length context) ∷ [])
    (machine : AreMachineAnswers Tracks w before given new) where
  abbrev begin : Machine
  begin = start_with shapes program context

  begins : Tracks w begin
  begins = subst (λ (p : List Loaded). Tracks w (start_machine shapes p)) bound tracks

  -- so the run can be started
  pub ready : All IsUpdate before → (m : Machine) × Tracks new m × IsReady m (length program) (length context)
  ready updates =
      let (ss, history, tracked) = machine begin begins in (
        last_of begin ss,
        tracked,
        ready_behind (length program) (length context) begin before given ss updates
            (ready_at_start shapes program context) history,
      )

  pub stops : (k : ℕ) (text : List ℕ) → text ≡ [] → k < length given → AreDone k given → slice_get given k ≢ Some done →
      StopsAt shapes program before context k text new
  stops k text untold less are_done other =
      let (ss, history, tracked) = machine begin begins in
      let many = as-many begin before given ss history in
      record {
        given = given;
        states = ss;
        updates = history;
        tracked = tracked;
        there = omega (arith, less, many);
        are_done = are_done;
        not_done = other;
        untold = untold;
      }

  pub runs : (e : Ended) (tells : Bool) (text : List ℕ) (last : WorldView) → All IsUpdate before → AreDone (length given) given →
      ((m : Machine) → Tracks new m → IsReady m (length program) (length context) → StartsAndExits m context e tells text last) →
      e.steps ≤ length program → RunsOnce shapes program before context e tells text last
  runs e tells text last updates are_done exits in_time =
      let (ss, history, tracked) = machine begin begins in
      let can = ready_behind (length program) (length context) begin before given ss updates (ready_at_start shapes program context) history in
      let done_all = subst (λ n. AreDone n given) (sym (as-many begin before given ss history)) are_done in
      record { given = given; states = ss; updates = history; are_done = done_all; runs = exits (last_of begin ss) tracked can; in_time = in_time }
