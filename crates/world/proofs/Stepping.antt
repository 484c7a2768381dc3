-- A step of a run: what its parts come to in the run's world.
use Rattle.bpf_model.proofs.Prelude.{◌≡◌, ◌∙◌, ℕ, ◌<◌, arith, refl, sym, ap, subst, Bool, List, Option, Some, None, inl, inr, slice_get, slice_set, map}
use Rattle.bpf_model.proofs.Prelude.{option_map, none-some, same_Some, slice_get-map, slice_get_within, Schedule, still_open, insn_at, MapView, RunView}
use Rattle.bpf_model.proofs.Prelude.{WorldView, shapes_of, shapes_of_maps, length-set, map-set, get-map, set-same, get-set_cases, option_flatten}
use Rattle.element_store.proofs.Prelude.{GraceState, is_open_depth, opened_in}
use Rattle.machine.proofs.Prelude.{request_of, resumed_view, RunWords, IsAt, IsCodeOf, MayGive, IsLocalStep}
use Rattle.model_laws.proofs.Prelude.{Answer, Insn, MAX_RUNS, Matches, step_refused}
use Rattle.verifier.proofs.Prelude.{IsJustified}
use Rattle.world.proofs.Prelude.{Request, CanServe, IsReply, IsFlagged, ShowsGrace, grace_after, maps_after, with_view, world_with, program_of}
use Rattle.world.proofs.Prelude.{AreProgramsBound, view_of, depth_of_run, IsOfProgram, AreRunsKept, IsKept, world_of, HasTaken}
use Rattle.world_laws.proofs.Prelude.{local_of, step_at, step_in, run_step_of, word_step, IsSound}
use Rattle.bpf_model.specs.declared.event.Answer.TheVariants as answers
use Rattle.bpf_model.specs.Machine as machine
use Rattle.world_laws.proofs.Keeping.{step-keeps}
use Rattle.world_laws.proofs.Stepping.{not-ended}
use Rattle.machine.specs.declared.request.Local.TheVariants as code
use Rattle.machine.proofs.Laws.{can_step}
use Rattle.machine.proofs.RunningStands.{running_stands}
use Rattle.world.proofs.Giving.{may_give}
use Rattle.world.proofs.Running.{running, flagged, can_be_served}
use Rattle.world.proofs.ServedSteps.{own_is, own_keeps, own_asks, served_is, goes_on, resumed-program, shown-still}
use Rattle.world.specs.declared.kept.loaded.Loaded.{Loaded}
use Rattle.world.specs.Stepping.{CanTake, IsGoing, HasGone}

module _ (loaded : Loaded) (maps : List MapView) (g : GraceState) (r : ℕ) (old : RunWords) (can : CanTake loaded maps g r old) where
  abbrev v : RunView
  v = old.view

  abbrev i : Insn
  i = can.step.insn

  is-flagged : (w : WorldView) → ShowsGrace w g → IsFlagged w r v
  is-flagged w e = record {
    opened = ap (λ (os : List Bool). slice_get os r) e.opened ∙ get-map is_open_depth g.depths r v.depth can.depth_is;
    awaited = ap (still_open w.awaited) e.opened ∙ (ap (λ (fs : List Bool). still_open fs (opened_in g)) e.awaited ∙ (can.flag.inside ∙ sym e.awaited));
    depth = can.depth;
  }

  -- the parts of a world, put in for those that they are
  parts-are : (answer : Answer) (new : RunView) (w : WorldView) → w.maps ≡ maps → ShowsGrace w g →
      (let y : Answer × WorldView = (answer, with_view r new w) in y) ≡ (answer, world_with maps g r new w)
  parts-are answer new w em eg =
      ap (λ (x : WorldView). (let y : Answer × WorldView = (answer, x) in y)) (shown-still r w g eg new)
      ∙ ap (λ (ms : List MapView). (let y : Answer × WorldView = (answer, world_with ms g r new w) in y)) em

  same-depths : (new : RunView) → new.depth ≡ v.depth → g.depths ≡ slice_set g.depths r new.depth
  same-depths new e = sym (ap (slice_set g.depths r) e ∙ set-same g.depths r v.depth can.depth_is)

  -- a step that the run makes by itself
  pub moved_taken : (new : RunWords) → IsLocalStep (local_of i v) (request_of i v) v code.Moved new.view →
      IsAt loaded.verified.program new → HasTaken loaded r old new maps maps g g answers.Moved
  moved_taken new h at =
      let same = own_keeps i v new.view (request_of i v) code.Moved h in
      record {
        insn = i;
        here = can.step.here;
        step = λ w em eg. own_is i (program_of loaded) r v new.view w (request_of i v) code.Moved (is-flagged w eg) h
            ∙ parts-are answers.Moved new.view w em eg;
        depths = same-depths new.view same.0;
        program = same.1;
        stands = at;
      }

  pub exited_taken : (n : ℕ) (new : RunWords) → IsLocalStep (local_of i v) (request_of i v) v (code.Exit n) new.view →
      IsAt loaded.verified.program new → HasTaken loaded r old new maps maps g g (answers.Exited n)
  exited_taken n new h at =
      let same = own_keeps i v new.view (request_of i v) (code.Exit n) h in
      record {
        insn = i;
        here = can.step.here;
        step = λ w em eg. own_is i (program_of loaded) r v new.view w (request_of i v) (code.Exit n) (is-flagged w eg)
            h ∙ parts-are (answers.Exited n) new.view w em eg;
        depths = same-depths new.view same.0;
        program = same.1;
        stands = at;
      }

  -- one that the world serves: the run is as before
  module _ (request : Request) (mid : RunWords) (h : IsLocalStep (local_of i v) (request_of i v) v (code.Shared request) mid.view) where
    asks : request_of i v ≡ Some request
    asks = (own_asks i v mid.view (request_of i v) request h).1

    same : mid.view ≡ v
    same = (own_asks i v mid.view (request_of i v) request h).2

    serves : CanServe request loaded.maps.items maps v
    serves = can.ask.serve i request can.step.here (own_asks i v mid.view (request_of i v) request h).0 asks

    pub can_serve : CanServe request loaded.maps.items maps mid.view
    can_serve = subst (CanServe request loaded.maps.items maps) (sym same) serves

    pub can_deep : slice_get g.depths r ≡ Some mid.view.depth
    can_deep = can.depth_is ∙ ap (λ (u : RunView). Some u.depth) (sym same)

    pub can_give : (word : ℕ) → IsReply request loaded.maps.items maps mid.view word → MayGive loaded.verified mid.view request word
    can_give word reply =
        subst (λ (u : RunView). MayGive loaded.verified u request word) (sym same)
        (can.ask.give i request word can.step.here (own_asks i v mid.view (request_of i v) request h).0 asks
        (subst (λ (u : RunView). IsReply request loaded.maps.items maps u word) same reply))

    here-too : insn_at loaded.verified.program mid.view.place ≡ Some i
    here-too = ap (λ (u : RunView). insn_at loaded.verified.program u.place) same ∙ can.step.here

    pub served_taken : (word : ℕ) (new : RunWords) (maps_new : List MapView) (g_new : GraceState) → IsReply request loaded.maps.items maps mid.view word
        → maps_new ≡ maps_after request loaded.maps.items mid.view maps → g_new ≡ grace_after request r g
        → ((insn : Insn) → insn_at loaded.verified.program mid.view.place ≡ Some insn → new.view ≡ resumed_view insn word mid.view)
        → IsAt loaded.verified.program new → HasTaken loaded r old new maps maps_new g g_new answers.Moved
    served_taken word new maps_new g_new reply em eg resumed at =
        let bound : List ℕ = loaded.maps.items in
        let view : new.view ≡ resumed_view i word v = resumed i here-too ∙ ap (λ (u : RunView). resumed_view i word u) same in
        let ms : maps_after request bound v maps ≡ maps_new = ap (λ (u : RunView). maps_after request bound u maps) (sym same) ∙ sym em in
        let word-is : IsReply request bound maps v word = subst (λ (u : RunView). IsReply request bound maps u word) same reply in
        let on = goes_on g r v can.depth_is can.flag.inside word i request asks in
        let out : List MapView → GraceState → RunView → WorldView → Answer × WorldView =
        λ (ms : List MapView) (x : GraceState) (u : RunView) (w : WorldView).
        (answers.Moved, world_with ms x r u w) in
        record {
          insn = i;
          here = can.step.here;
          step = λ w fm fg.
              served_is r v w (is-flagged w fg) g fg can.depth_is (program_of loaded) word i request asks
              (subst (λ (l : List MapView). CanServe request bound l v) (sym fm) serves)
              (subst (λ (l : List MapView). IsReply request bound l v word) (sym fm) word-is)
              ∙ ap (λ (l : List MapView). out (maps_after request bound v l) (grace_after request r g) (resumed_view i word v) w) fm
              ∙ ap (λ (l : List MapView). out l (grace_after request r g) (resumed_view i word v) w) ms
              ∙ ap (λ (x : GraceState). out maps_new x (resumed_view i word v) w) (sym eg)
              ∙ ap (λ (u : RunView). out maps_new g_new u w) (sym view);
          depths = ap (λ (x : GraceState). x.depths) eg ∙ on.depths ∙ ap (λ (u : RunView). slice_set g.depths r u.depth) (sym view);
          program = ap (λ (u : RunView). u.program) view ∙ resumed-program i word v;
          stands = at;
        }

-- a run slot from which a step is not refused
going : (o : Option (Option RunWords)) → step_refused (option_flatten (option_map view_of o)) ≡ None →
    (run : RunWords) × (o ≡ Some (Some run)) × (run.view.exit ≡ None)
going None e = absurd (none-some _ (sym e))
going (Some None) e = absurd (none-some _ (sym e))
going (Some (Some run)) e = (run, refl, not-ended run.view.exit e)

module _ (names : List (List ℕ)) (maps : List MapView) (runs : List (Option RunWords)) (g : GraceState)
    (programs : List Loaded) (given r : ℕ) (kept : IsKept maps runs g programs) where
  abbrev w : WorldView
  w = world_of names maps runs g programs given

  loaded-shown : (run : RunWords) (loaded : Loaded) → slice_get programs run.view.program ≡ Some loaded →
      slice_get w.programs run.view.program ≡ Some (program_of loaded)
  loaded-shown run loaded e = slice_get-map program_of programs run.view.program ∙ ap (option_map program_of) e

  run-at : (run : RunWords) → slice_get runs r ≡ Some (Some run) → slice_get w.runs r ≡ Some (Some run.view)
  run-at run e = slice_get-map view_of runs r ∙ ap (option_map view_of) e

  -- a loaded program's code is that of the program that the world shows
  code-of : (loaded : Loaded) (p : ℕ) → slice_get programs p ≡ Some loaded → IsJustified loaded.verified →
      IsCodeOf loaded.verified (shapes_of w) (program_of loaded)
  code-of loaded p e justified = record { justified = justified; code = refl; context = refl; bound = kept.bound p loaded e }

  -- in a sound world the run in a slot may make a step, unless that is refused
  pub is_going : (s : Schedule) → Matches w s → IsSound w s → step_refused (option_flatten (slice_get w.runs r)) ≡ None → IsGoing runs programs maps g r
  is_going s m sound e =
      let x = going (slice_get runs r) (ap (λ o. step_refused (option_flatten o)) (sym (slice_get-map view_of runs r)) ∙ e) in
      let shown = run-at x.0 x.1 in
      let y = running w s m r x.0.view shown x.2 in
      let of = kept.of_runs.of_program r x.0 x.1 in
      let at = loaded-shown x.0 of.program of.there in
      let f = flagged w s m sound r y.0 x.0.view y.1 in
      let within : r < MAX_RUNS = subst (λ n. r < n) kept.of_runs.slots (slice_get_within runs r (Some x.0) x.1) in
      record {
        run = x.0;
        there = x.1;
        loaded = of.program;
        of = of.there;
        may = record {
          can = λ justified. record {
            stands = record {
              at = of.stands;
              stands =
                  running_stands w s m sound r y.0 x.0.view y.1 (program_of of.program) at of.program.verified
                  (code-of of.program x.0.view.program of.there justified);
            };
            step = can_step w s m sound r y.0 x.0.view y.1 (program_of of.program) at of.program.verified
                (code-of of.program x.0.view.program of.there justified);
            ask = record {
              serve = can_be_served w s m sound r y.0 x.0.view y.1 (program_of of.program) at;
              give = λ i request word here waits asked reply.
                  may_give w s m sound r y.0 x.0.view y.1 (omega (arith, within)) (program_of of.program) at
                  of.program.verified (code-of of.program x.0.view.program of.there justified) i request word here
                  waits asked
                  (can_be_served w s m sound r y.0 x.0.view y.1 (program_of of.program) at i request here waits asked) reply;
            };
            flag = record { slot = within; inside = f.awaited };
            depth_is = ap (λ (ds : List ℕ). slice_get ds r) kept.of_runs.depths ∙ get-map depth_of_run runs r (Some x.0) x.1;
            depth = f.depth;
          };
        };
      }

  module _ (runs_new : List (Option RunWords)) (maps_new : List MapView) (g_new : GraceState) (answer : Answer)
      (gone : HasGone runs runs_new programs maps maps_new g g_new r answer) where
    -- what is kept of the runs holds after the step
    gone-runs : AreRunsKept runs_new g_new programs
    gone-runs = subst (λ (l : List (Option RunWords)). AreRunsKept l g_new programs) (sym gone.runs_are) (record {
      slots = length-set runs r (Some gone.new) ∙ kept.of_runs.slots;
      depths = gone.taken.depths ∙ ap (λ ds. slice_set ds r gone.new.view.depth) kept.of_runs.depths ∙ sym (map-set depth_of_run runs r (Some gone.new));
      of_program = λ k run e. elim (get-set_cases runs r k (Some gone.new) (Some run) e) [
        | inl z ↦ subst (IsOfProgram programs) (same_Some gone.new run z.1) (record {
          program = gone.loaded;
          there = ap (slice_get programs) gone.taken.program ∙ gone.of;
          stands = gone.taken.stands;
        })
        | inr z ↦ kept.of_runs.of_program k run z.1
      ];
    })

    -- the world's step
    pub gone_is : word_step w r ≡ (answer, world_of names maps_new runs_new g_new programs given)
    gone_is =
        let run : RunWords = gone.run in
        let out : List (Option RunView) → Answer × WorldView = λ (l : List (Option RunView)). (
          answer,
          record {
            names = names;
            maps = maps_new;
            runs = l;
            opened = opened_in g_new;
            awaited =
                g_new.awaited;
            programs = w.programs;
            given = given;
          },
        ) in
        ap (λ (o : Option (Option RunView)). run_step_of (option_flatten o) r w) (run-at run gone.there)
        ∙ ap (λ (o : Option machine.Loaded). step_in o r run.view w) (loaded-shown run gone.loaded gone.of)
        ∙ ap (λ (o : Option Insn). step_at o (program_of gone.loaded) r run.view w) gone.taken.here
        ∙ gone.taken.step w refl (record { opened = refl; awaited = refl })
        ∙ ap out (sym (map-set view_of runs r (Some gone.new)) ∙ ap (map view_of) (sym gone.runs_are))

    -- and the programs are bound to the maps, whose shapes stay
    pub gone_kept : IsKept maps_new runs_new g_new programs
    gone_kept = record {
      of_runs = gone-runs;
      bound = subst (λ shapes. AreProgramsBound shapes programs)
          (sym (ap (λ (x : Answer × WorldView). shapes_of_maps x.1.maps) (sym gone_is) ∙ (step-keeps w r).0))
          kept.bound;
    }
