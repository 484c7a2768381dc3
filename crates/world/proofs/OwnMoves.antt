-- Moves that a run makes by itself are steps of its world.
use Rattle.bpf_model.proofs.Prelude.{◌≡◌, ◌∙◌, ℕ, ◌+◌, ◌<◌, ◌^◌, List, [], ◌∷◌, Option, Some, None, Bool, true, false, zero, suc, refl, sym, ap, subst}
use Rattle.bpf_model.proofs.Prelude.{slice_get, slice_set, nat_lt, ℤ, pos, negsuc, ◌+ℤ◌, get-set_there, set-same, byte_count, unsigned_width, compares}
use Rattle.bpf_model.proofs.Prelude.{loaded_signed, Loaded, insn_at, RunView, WorldView, ◌≤◌, inl, inr, map, arith, option_map, length-set, map-set}
use Rattle.bpf_model.proofs.Prelude.{same_Some, slice_get-map, get-set_cases, MapView}
use Rattle.element_store.proofs.Prelude.{GraceState}
use Rattle.machine.proofs.Prelude.{request_of, IsLocalStep, TakesStep, WalksOn, at_first, one_more, RunWords, IsBefore}
use Rattle.model_laws.proofs.Prelude.{Answer, Insn, Location, InContext, InFrame, AtMap, InSlot, MAX_DEPTH}
use Rattle.verifier.proofs.Prelude.{Checked}
use Rattle.world.proofs.Prelude.{IsFlagged, with_view, MakesMoves, WouldMove, not_yet, once_more, Walk, AreRunsKept, IsKept, IsOfProgram, depth_of_run}
use Rattle.world.proofs.Prelude.{view_of, world_of, program_of}
use Rattle.world_laws.proofs.Prelude.{LocalStep, Goes, Ends, Asks, local_of, local_load, local_store, location_of, branched, ended_view, jumped_to}
use Rattle.world_laws.proofs.Prelude.{operand_word, stored_frame, word_in, full_reaction, insn_step, IsWorld}
use Rattle.bpf_model.specs.declared.event.Answer.TheVariants as answers
use Rattle.bpf_model.specs.declared.event.Event.TheVariants as events
use Rattle.bpf_model.specs.declared.insn.Insn.TheVariants as insns
use Rattle.machine.specs.declared.request.Local.TheVariants as code
use Rattle.machine.proofs.Reacting.{reacts_by_insn}
use Rattle.world.proofs.ServedSteps.{own_asks, own_is, own_keeps}
use Rattle.world_laws.proofs.KeepingWorlds.{reaction_is_world}
use Rattle.machine.specs.declared.walk.WalkEnd.{WalkEnd}
use Rattle.machine.specs.declared.walk.WalkEnd.TheVariants.{Enough, Asks as AsksNext, Exits}
use Rattle.world.specs.declared.kept.loaded.Loaded as parts
use Rattle.world.specs.Stretches.{HasWalked, IsAhead}
use Rattle.world.proofs.NextSteps.{would-move}

-- what a run does by itself before its exit leaves it without an exit value
abbrev KeepsExit : RunView → LocalStep → Type 0
KeepsExit v (Goes new) = new.exit ≡ v.exit
KeepsExit v (Ends n) = Unit {0}
KeepsExit v Asks = Unit {0}

jumped-exit : (z : ℤ) (v : RunView) → (jumped_to z v).exit ≡ v.exit
jumped-exit (pos n) v = refl
jumped-exit (negsuc n) v = refl

branched-exit : (b : Bool) (offset : ℤ) (v : RunView) → (branched b offset v).exit ≡ v.exit
branched-exit true offset v = jumped-exit (pos (v.place + 1) +ℤ offset) v
branched-exit false offset v = refl

stored-exit : (width number : ℕ) (z : ℤ) (v : RunView) → (stored_frame width number z v).exit ≡ v.exit
stored-exit width number (pos n) v = refl
stored-exit width number (negsuc n) v = refl

load-exit : (width : ℕ) (offset : ℤ) (dst : ℕ) (make : ℕ → ℕ) (l : Location) (v : RunView) → KeepsExit v (local_load width offset dst make l v)
load-exit width offset dst make (InContext o) v = refl
load-exit width offset dst make (InFrame o) v = refl
load-exit width offset dst make (AtMap map) v = tt
load-exit width offset dst make (InSlot map slot o) v = tt

store-exit : (width : ℕ) (offset : ℤ) (number : ℕ) (l : Location) (v : RunView) → KeepsExit v (local_store width offset number l v)
store-exit width offset number (InFrame o) v = stored-exit width number (o +ℤ offset) v
store-exit width offset number (InContext o) v = tt
store-exit width offset number (AtMap map) v = tt
store-exit width offset number (InSlot map slot o) v = tt

keeps-exit : (i : Insn) (v : RunView) → KeepsExit v (local_of i v)
keeps-exit (insns.Alu op size dst src) v = refl
keeps-exit (insns.Unary op dst) v = refl
keeps-exit (insns.LoadNumber dst n) v = refl
keeps-exit (insns.LoadMap dst map) v = refl
keeps-exit (insns.Jump offset) v = jumped-exit (pos (v.place + 1) +ℤ offset) v
keeps-exit (insns.JumpLong imm) v = jumped-exit (pos (v.place + 1) +ℤ imm) v
keeps-exit (insns.JumpIf condition size dst src offset) v = branched-exit (compares size condition (word_in v dst) (operand_word v src)) offset v
keeps-exit (insns.Call kind imm) v = tt
keeps-exit insns.Exit v = tt
keeps-exit (insns.Load width dst src offset) v = load-exit (byte_count width) offset dst (λ n. n) (location_of (word_in v src)) v
keeps-exit (insns.LoadSigned width dst src offset) v = load-exit (byte_count (unsigned_width width)) offset dst
    (loaded_signed width) (location_of (word_in v src)) v
keeps-exit (insns.Store width dst offset src) v = store-exit (byte_count width) offset (operand_word v src) (location_of (word_in v dst)) v

moved-exit : (i : Insn) (v after : RunView) → IsLocalStep (local_of i v) (request_of i v) v code.Moved after → after.exit ≡ v.exit
moved-exit i v after h = by (local_of i v) (keeps-exit i v) h
  where
    by : (l : LocalStep) → KeepsExit v l → IsLocalStep l (request_of i v) v code.Moved after → after.exit ≡ v.exit
    by (Goes new) same (e, g) = ap (λ (u : RunView). u.exit) g ∙ same
    by (Ends n) same (e, g) = absurd (cc)
    by Asks same (request, is, e, g) = absurd (cc)

set-again : {A : Type 0} (xs : List A) (i : ℕ) (x y : A) → slice_set (slice_set xs i x) i y ≡ slice_set xs i y
set-again [] i x y = refl
set-again (z ∷ xs) zero x y = refl
set-again (z ∷ xs) (suc i) x y = ap (λ l. z ∷ l) (set-again xs i x y)

module _ (c : Checked) (w : WorldView) (r : ℕ) (first : RunView) (program : Loaded) (code-is : c.program ≡ program.code)
    (there : slice_get w.runs r ≡ Some (Some first)) (of : slice_get w.programs first.program ≡ Some program)
    (running : first.exit ≡ None) (flagged : IsFlagged w r first) where
  -- the world after some moves: only the run's view is another
  abbrev pub world-at : RunView → WorldView
  world-at v = with_view r v w

  -- so the run has come along, by steps of the world
  pub record HasCome (count : ℕ) (v : RunView) : Type 0 where
    pub steps : MakesMoves r w count (world-at v)
    pub depth : v.depth ≡ first.depth
    pub program-is : v.program ≡ first.program
    pub exit : v.exit ≡ None

  pub shown : (v : RunView) → slice_get (world-at v).runs r ≡ Some (Some v)
  shown v = get-set_there w.runs r (Some first) (Some v) there

  pub flagged-at : (v : RunView) → v.depth ≡ first.depth → IsFlagged (world-at v) r v
  flagged-at v same = record {
    opened = flagged.opened ∙ ap (λ (d : ℕ). Some (nat_lt 0 d)) (sym same);
    awaited = flagged.awaited;
    depth = subst (λ (d : ℕ). d ≤ MAX_DEPTH) (sym same) flagged.depth;
  }

  -- the step at a view is the step of the instruction there
  pub step-at : (count : ℕ) (v : RunView) → HasCome count v → (i : Insn) → insn_at c.program v.place ≡ Some i →
      full_reaction (world-at v) (events.Step r) ≡ insn_step i program r v (world-at v)
  step-at count v h i here =
      reacts_by_insn (world-at v) r v program i (shown v) h.exit
      (ap (slice_get w.programs) h.program-is ∙ of)
      (subst (λ (is : List Insn). insn_at is v.place ≡ Some i) code-is here)

  came-first : HasCome 0 first
  came-first =
      let same : world-at first ≡ w = ap (λ (rs : List (Option RunView)). record w { runs = rs }) (set-same w.runs r (Some first) there) in
      record {
        steps = subst (MakesMoves r w 0) (sym same) not_yet;
        depth = refl;
        program-is = refl;
        exit = running;
      }

  came-on : (count : ℕ) (v next : RunView) → HasCome count v → TakesStep c v code.Moved next → HasCome (count + 1) next
  came-on count v next h step =
      let i = step.0 in
      let local = step.2 in
      let same = own_keeps i v next (request_of i v) code.Moved local in
      let moved : insn_step i program r v (world-at v) ≡ (answers.Moved, with_view r next (world-at v)) =
      own_is i program r v next (world-at v) (request_of i v) code.Moved (flagged-at v h.depth) local in
      let x : full_reaction (world-at v) (events.Step r) ≡ (answers.Moved, with_view r next (world-at v)) = step-at count v h i step.1 ∙ moved in
      let would : WouldMove (world-at v) r = ap (λ (y : Answer × WorldView). y.0) x in
      let after : (full_reaction (world-at v) (events.Step r)).1 ≡ world-at next =
      ap (λ (y : Answer × WorldView). y.1) x
      ∙ ap (λ (rs : List (Option RunView)). record w { runs = rs }) (set-again w.runs r (Some v) (Some next)) in
      record {
        steps = subst (MakesMoves r w (count + 1)) after (once_more count (world-at v) h.steps would);
        depth = same.0 ∙ h.depth;
        program-is = same.1 ∙ h.program-is;
        exit = moved-exit i v next local ∙ h.exit;
      }

  pub come : (count : ℕ) (v : RunView) → WalksOn c first count v → HasCome count v
  come count v at_first = came-first
  come count v (one_more so_far before next h step) = came-on so_far before next (come so_far before h) step

-- moves lead from world to world
pub moves-to-world : (r : ℕ) (w : WorldView) (count : ℕ) (u : WorldView) → MakesMoves r w count u → IsWorld w → r < 2 ^ 64 → IsWorld u
moves-to-world r w count u not_yet is real = is
moves-to-world r w count u (once_more so_far mid h would) is real =
    reaction_is_world mid (events.Step r) (moves-to-world r w so_far mid h is real) real

asks-no-exit : (i : Insn) (v : RunView) → local_of i v ≡ Asks → i ≡ insns.Exit → ⊥
asks-no-exit i v asks e =
    let x : Ends (word_in v 0) ≡ Asks = ap (λ (j : Insn). local_of j v) (sym e) ∙ asks in cc

-- of the parts of a world
module _ (names : List (List ℕ)) (maps : List MapView) (runs runs_new : List (Option RunWords)) (g : GraceState)
    (programs : List parts.Loaded) (given r : ℕ) (walk : Walk WalkEnd) (kept : IsKept maps runs g programs)
    (walked : HasWalked runs runs_new programs r walk) (running : walked.run.view.exit ≡ None)
    (flagged : IsFlagged (world_of names maps runs g programs given) r walked.run.view) where
  abbrev pub old-world : WorldView
  old-world = world_of names maps runs g programs given

  abbrev pub new-world : WorldView
  new-world = world_of names maps runs_new g programs given

  shown-old : slice_get old-world.runs r ≡ Some (Some walked.run.view)
  shown-old = slice_get-map view_of runs r ∙ ap (option_map view_of) walked.there

  program-old : slice_get old-world.programs walked.run.view.program ≡ Some (program_of walked.loaded)
  program-old = slice_get-map program_of programs walked.run.view.program ∙ ap (option_map program_of) walked.of

  came : HasCome walked.loaded.verified old-world r walked.run.view (program_of walked.loaded) refl shown-old program-old
      running flagged walk.moved walked.new.view
  came =
      come walked.loaded.verified old-world r walked.run.view (program_of walked.loaded) refl shown-old program-old
      running flagged walk.moved walked.new.view walked.moves

  is-new : world-at walked.loaded.verified old-world r walked.run.view (program_of walked.loaded) refl shown-old
      program-old running flagged walked.new.view ≡ new-world
  is-new = ap (λ (rs : List (Option RunView)). record old-world { runs = rs })
      (sym (map-set view_of runs r (Some walked.new)) ∙ ap (map view_of) (sym walked.runs_are))

  pub walk-moves : MakesMoves r old-world walk.moved new-world
  walk-moves = subst (MakesMoves r old-world walk.moved) is-new came.steps

  pub walk-kept : IsKept maps runs_new g programs
  walk-kept = record {
    of_runs = subst (λ (l : List (Option RunWords)). AreRunsKept l g programs) (sym walked.runs_are) (record {
      slots = length-set runs r (Some walked.new) ∙ kept.of_runs.slots;
      depths = kept.of_runs.depths
          ∙ sym (map-set depth_of_run runs r (Some walked.new)
          ∙ (ap (slice_set (map depth_of_run runs) r) came.depth
          ∙ set-same (map depth_of_run runs) r walked.run.view.depth
          (slice_get-map depth_of_run runs r ∙ ap (option_map depth_of_run) walked.there)));
      of_program = λ k run e. elim (get-set_cases runs r k (Some walked.new) (Some run) e) [
        | inl z ↦ subst (IsOfProgram programs) (same_Some walked.new run z.1) (record {
          program = walked.loaded;
          there = ap (slice_get programs) came.program-is ∙ walked.of;
          stands = walked.stands;
        })
        | inr z ↦ kept.of_runs.of_program k run z.1
      ];
    });
    bound = kept.bound;
  }

  module _ (is : IsWorld old-world) (real : r < 2 ^ 64) where
    reacts : (i : Insn) → insn_at walked.loaded.verified.program walked.new.view.place ≡ Some i →
        full_reaction new-world (events.Step r) ≡ insn_step i (program_of walked.loaded) r walked.new.view new-world
    reacts i here = subst (λ (u : WorldView). full_reaction u (events.Step r) ≡ insn_step i (program_of walked.loaded) r walked.new.view u) is-new
        (step-at walked.loaded.verified old-world r walked.run.view (program_of walked.loaded) refl shown-old program-old running flagged
        walk.moved walked.new.view came i here)

    flagged-new : IsFlagged new-world r walked.new.view
    flagged-new = subst (λ (u : WorldView). IsFlagged u r walked.new.view) is-new
        (flagged-at walked.loaded.verified old-world r walked.run.view (program_of walked.loaded) refl shown-old program-old running flagged
        walked.new.view came.depth)

    ahead-by : (e : WalkEnd) → IsBefore e walked.loaded.verified walked.new.view → IsAhead e new-world r
    ahead-by Enough b = tt
    ahead-by AsksNext b =
        let i = b.1.0 in
        let asks = own_asks i walked.new.view walked.new.view (request_of i walked.new.view) b.0 b.1.2 in
        would-move new-world r walked.new.view i (program_of walked.loaded)
        (moves-to-world r old-world walk.moved new-world walk-moves is real) real (reacts i b.1.1)
        (asks-no-exit i walked.new.view asks.0)
    ahead-by Exits b =
        let i = b.1.0 in
        let ends = own_is i (program_of walked.loaded) r walked.new.view (ended_view b.0 walked.new.view) new-world
        (request_of i walked.new.view) (code.Exit b.0) flagged-new b.1.2 in
        (b.0, ap (λ (x : Answer × WorldView). x.0) (reacts i b.1.1 ∙ ends))

    pub walk-ahead : IsAhead walk.end new-world r
    walk-ahead = ahead-by walk.end walked.before

-- moves behind other moves
pub moves-behind : (r : ℕ) (w : WorldView) (a : ℕ) (mid : WorldView) (b : ℕ) (u : WorldView) → MakesMoves r w a mid →
    MakesMoves r mid b u → MakesMoves r w (a + b) u
moves-behind r w a mid b u first not_yet = subst (λ (n : ℕ). MakesMoves r w n mid) (omega arith) first
moves-behind r w a mid b u first (once_more so_far before h would) =
    subst (λ (n : ℕ). MakesMoves r w n u) (omega arith)
    (once_more (a + so_far) before (moves-behind r w a mid so_far before first h) would)

-- a move more
pub one-behind : (r : ℕ) (w : WorldView) (a : ℕ) (mid new : WorldView) → MakesMoves r w a mid → WouldMove mid r →
    new ≡ (full_reaction mid (events.Step r)).1 → MakesMoves r w (a + 1) new
one-behind r w a mid new first would e = subst (MakesMoves r w (a + 1)) (sym e) (once_more a mid first would)
