-- What a start and a drop leave of a world.
use Rattle.bpf_model.proofs.Prelude.{◌≡◌, ◌∙◌, ℕ, zero, suc, List, ◌∷◌, length, Bool, true, false, Option, Some, None, inl, inr, refl, sym, ap, subst, cond}
use Rattle.bpf_model.proofs.Prelude.{slice_get, slice_set, map, option_map, replicate, none-some, same_Some, slice_get-map, eq-eqb, start_refusal, if_full}
use Rattle.bpf_model.proofs.Prelude.{still_open, MapView, RunView, WorldView, length-map, length-set, map-set, get-map, set-same, get-set_cases}
use Rattle.bpf_model.proofs.Prelude.{get-replicate, lowest_free}
use Rattle.element_store.proofs.Prelude.{GraceState, IsGrace, is_open_depth, opened_in}
use Rattle.machine.proofs.Prelude.{RunWords, IsAt}
use Rattle.model_laws.proofs.Prelude.{BadContext, MAX_RUNS, with_run, fresh_view, start_by, start_reaction}
use Rattle.world.proofs.Prelude.{program_of, view_of, depth_of_run, IsOfProgram, AreRunsKept, world_of}
use Rattle.bpf_model.specs.Machine as machine
use Rattle.element_store.proofs.Views.{map-set_same}
use Rattle.model_laws.proofs.Listing.{still-same}
use Rattle.world.specs.declared.kept.loaded.Loaded.{Loaded}
use Rattle.world.proofs.Flags.{still-cleared}
use Rattle.world.proofs.Slots.{Runs}

same_world : (names : List (List ℕ)) (maps : List MapView) (programs : List machine.Loaded) (given : ℕ)
    (rs qs : List (Option RunView)) (os ps cs bs : List Bool) → rs ≡ qs → os ≡ ps → cs ≡ bs →
    let a : WorldView = record { names = names; maps = maps; runs = rs; opened = os; awaited = cs; programs = programs; given = given } in
    let b : WorldView = record { names = names; maps = maps; runs = qs; opened = ps; awaited = bs; programs = programs; given = given } in
    a ≡ b
same_world names maps programs given rs qs os ps cs bs e f g = cc

-- there are as many flags of who is awaited as of who is inside a section
as-many : (g : GraceState) → IsGrace g → length g.awaited ≡ length (opened_in g)
as-many g sound = sound.awaited ∙ (sym sound.depths ∙ sym (length-map g.depths is_open_depth))

module _ (names : List (List ℕ)) (maps : List MapView) (runs : Runs) (grace new : GraceState) (programs : List Loaded)
    (given i r : ℕ) (same : i ≡ r) (kept : AreRunsKept runs grace programs) (sound : IsGrace grace)
    (depths : new.depths ≡ slice_set grace.depths r 0) (awaited : new.awaited ≡ slice_set grace.awaited r false) where
  pub dropped-kept : AreRunsKept (slice_set runs i None) new programs
  dropped-kept = record {
    slots = length-set runs i None ∙ kept.slots;
    depths = depths ∙ (ap (λ (ds : List ℕ). slice_set ds r 0) kept.depths ∙
        (ap (λ k. slice_set (map depth_of_run runs) k 0) (sym same) ∙ sym (map-set depth_of_run runs i None)));
    of_program = λ k run e. elim (get-set_cases runs i k None (Some run) e) [
      | inl z ↦ absurd (none-some run z.1)
      | inr z ↦ kept.of_program k run z.1
    ];
  }

  pub dropped-view : world_of names maps (slice_set runs i None) new programs given ≡ with_run r None (world_of names maps runs grace programs given)
  dropped-view =
      same_world names maps (map program_of programs) given _ _ _ _ _ _
      (map-set view_of runs i None ∙ ap (λ k. slice_set (map view_of runs) k None) same)
      (ap (map is_open_depth) depths ∙ map-set is_open_depth grace.depths r 0)
      (awaited ∙ sym (still-cleared grace.awaited (opened_in grace) r (as-many grace sound) sound.inside))

module _ (names : List (List ℕ)) (maps : List MapView) (runs : Runs) (grace : GraceState) (programs : List Loaded)
    (given i prog : ℕ) (context : List ℕ) (program : Loaded) (run : RunWords) (free : slice_get runs i ≡ Some None)
    (kept : AreRunsKept runs grace programs) (there : slice_get programs prog ≡ Some program)
    (fresh : run.view ≡ fresh_view prog context) (stands : IsAt program.verified.program run) where
  started-depth : depth_of_run (Some run) ≡ 0
  started-depth = ap (λ (v : RunView). v.depth) fresh

  free-depth : slice_get grace.depths i ≡ Some 0
  free-depth = ap (λ (ds : List ℕ). slice_get ds i) kept.depths ∙ get-map depth_of_run runs i None free

  started-opened : slice_set (opened_in grace) i false ≡ opened_in grace
  started-opened = set-same (opened_in grace) i false (get-map is_open_depth grace.depths i 0 free-depth)

  pub started-kept : AreRunsKept (slice_set runs i (Some run)) grace programs
  started-kept = record {
    slots = length-set runs i (Some run) ∙ kept.slots;
    depths = kept.depths ∙ sym (map-set_same depth_of_run runs i None (Some run) free started-depth);
    of_program = λ k other e. elim (get-set_cases runs i k (Some run) (Some other) e) [
      | inl z ↦ subst (IsOfProgram programs) (same_Some run other z.1) (record {
        program = program;
        there = ap (λ (v : RunView). slice_get programs v.program) fresh ∙ there;
        stands = stands;
      })
      | inr z ↦ kept.of_program k other z.1
    ];
  }

  pub started-view : IsGrace grace → world_of names maps (slice_set runs i (Some run)) grace programs given ≡ with_run
      i (Some (fresh_view prog context)) (world_of names maps runs grace programs given)
  started-view sound =
      same_world names maps (map program_of programs) given _ _ _ _ _ _
      (map-set view_of runs i (Some run) ∙ ap (λ (v : RunView). slice_set (map view_of runs) i (Some v)) fresh)
      (sym started-opened)
      (sym (still-same grace.awaited (opened_in grace) (as-many grace sound) sound.inside) ∙ ap (still_open grace.awaited) (sym started-opened))

-- a start that neither the program nor the context refuses
pub start-goes : (w : WorldView) (prog : ℕ) (context : List ℕ) (program : machine.Loaded) (o : Option ℕ) →
    slice_get w.programs prog ≡ Some program → length context ≡ program.context_len → lowest_free w.runs ≡ o →
    start_reaction w prog context ≡ start_by (if_full o) o w prog context
start-goes w prog context program o there long free =
    ap (λ p. start_by (start_refusal p (length context) (lowest_free w.runs)) (lowest_free w.runs) w prog context) there
    ∙ (ap (λ z. start_by (cond z (if_full (lowest_free w.runs)) (Some BadContext)) (lowest_free w.runs) w prog
    context) (eq-eqb (length context) program.context_len long)
    ∙ ap (λ f. start_by (if_full f) f w prog context) free)

pub started : (names : List (List ℕ)) (maps : List MapView) (runs : Runs) (grace : GraceState)
    (programs : List Loaded) (given prog : ℕ) (context : List ℕ) (program : Loaded) (o : Option ℕ) (w : WorldView) →
    world_of names maps runs grace programs given ≡ w →
    slice_get programs prog ≡ Some program → length context ≡ program.verified.ctx_len →
    o ≡ lowest_free (map view_of runs) → start_reaction w prog context ≡ start_by (if_full o) o w prog context
started names maps runs grace programs given prog context program o w e there long free =
    start-goes w prog context (program_of program) o
    (ap (λ (z : WorldView). slice_get z.programs prog) (sym e) ∙ (slice_get-map program_of programs prog ∙ ap (option_map program_of) there))
    long
    (ap (λ (z : WorldView). lowest_free z.runs) (sym e) ∙ sym free)

pub map-replicate : {A B : Type 0} (f : A → B) (n : ℕ) (x : A) → map f (replicate n x) ≡ replicate n (f x)
map-replicate f zero x = refl
map-replicate f (suc n) x = ap (λ l. f x ∷ l) (map-replicate f n x)

none-in : {A : Type 0} (n r : ℕ) (x : A) → slice_get (replicate n None) r ≡ Some (Some x) → ⊥
none-in n r x e = none-some x (sym (get-replicate n r None (Some x) e))

pub fresh-kept : (runs : Runs) (grace : GraceState) (programs : List Loaded) → runs ≡ replicate MAX_RUNS None →
    grace.depths ≡ replicate MAX_RUNS 0 → AreRunsKept runs grace programs
fresh-kept runs grace programs e o = record {
  slots = ap (λ (rs : Runs). length rs) e;
  depths = o ∙ (sym (map-replicate depth_of_run MAX_RUNS None) ∙ sym (ap (map depth_of_run) e));
  of_program = λ r run g. absurd (none-in MAX_RUNS r run (ap (λ (rs : Runs). slice_get rs r) (sym e) ∙ g));
}

depths-stay : (turns : Bool) (grace new : GraceState) →
    new ≡ cond turns (record { depths = grace.depths; awaited = opened_in grace }) grace → new.depths ≡ grace.depths
depths-stay true grace new is = ap (λ (g : GraceState). g.depths) is
depths-stay false grace new is = ap (λ (g : GraceState). g.depths) is

-- where a grace period ends, the runs are as deep as before
pub turned-kept : (turns : Bool) (runs : Runs) (grace new : GraceState) (programs : List Loaded) →
    new ≡ cond turns (record { depths = grace.depths; awaited = opened_in grace }) grace →
    AreRunsKept runs grace programs → AreRunsKept runs new programs
turned-kept turns runs grace new programs is kept = record {
  slots = kept.slots;
  depths = depths-stay turns grace new is ∙ kept.depths;
  of_program = kept.of_program;
}
