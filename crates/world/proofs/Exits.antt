-- Exits, as they are asked for.
use Rattle.bpf_model.proofs.Prelude.{◌≡◌, ◌∙◌, ℕ, zero, suc, List, [], ◌∷◌, Option, Some, None, refl, sym, ap, subst, slice_get, map, option_map, IfSome}
use Rattle.bpf_model.proofs.Prelude.{IfNone, none-some, same_Some, slice_get-map, MapView, RunView, WorldView, shapes_of_maps}
use Rattle.element_store.proofs.Prelude.{GraceState}
use Rattle.machine.proofs.Prelude.{RunWords}
use Rattle.model_laws.proofs.Prelude.{Insn, MapShape}
use Rattle.world.proofs.Prelude.{IsBound, program_of, view_of, world_of, HasNoRun}
use Rattle.world_laws.proofs.Prelude.{HasExited}
use Rattle.bpf_model.specs.Machine as machine
use Rattle.world.specs.declared.kept.loaded.Loaded.{Loaded}
use Rattle.world.proofs.Slots.{Runs}

-- a view that is shown is that of a run
shown : (runs : Runs) (r : ℕ) (v : RunView) → slice_get (map view_of runs) r ≡ Some (Some v) → (run : RunWords) × (slice_get runs r ≡ Some (Some run))
shown [] r v e = absurd (none-some (Some v) e)
shown (None ∷ runs) zero v e = absurd (none-some v (same_Some None (Some v) e))
shown (Some run ∷ runs) zero v e = (run, refl)
shown (o ∷ runs) (suc r) v e = shown runs r v e

-- what is so where nothing is
pub none-pass : {A P Q : Type 0} (o : Option A) → (P → Q) → IfNone o P → IfNone o Q
none-pass None f h = f h
none-pass (Some x) f h = h

-- where a run slot has no run the world shows none
pub shows-nothing : (names : List (List ℕ)) (maps : List MapView) (runs : Runs) (grace : GraceState) (programs : List Loaded)
    (given : ℕ) (w : WorldView) → world_of names maps runs grace programs given ≡ w → (r : ℕ) → HasNoRun runs r →
    (v : RunView) → slice_get w.runs r ≡ Some (Some v) → ⊥
shows-nothing names maps runs grace programs given w is r none v e =
    let s = shown runs r v (ap (λ (z : WorldView). slice_get z.runs r) is ∙ e) in
    none s.0 s.1

-- lists whose items are there are the same
all-some : (xs ys : List MapShape) → map Some xs ≡ map Some ys → xs ≡ ys
all-some [] [] e = refl
all-some [] (y ∷ ys) e = absurd (cc)
all-some (x ∷ xs) [] e = absurd (cc)
all-some (x ∷ xs) (y ∷ ys) e =
    let first : x ≡ y = cc in
    let rest : map Some xs ≡ map Some ys = cc in
    ap (λ z. z ∷ xs) first ∙ ap (λ zs. y ∷ zs) (all-some xs ys rest)

module _ (names : List (List ℕ)) (maps : List MapView) (runs : Runs) (grace : GraceState) (programs : List Loaded)
    (given : ℕ) (w : WorldView) (is : world_of names maps runs grace programs given ≡ w) (r : ℕ) (code : List Insn)
    (shapes : List MapShape) (context_len : ℕ) (context : List ℕ) where
  abbrev World : WorldView
  World = world_of names maps runs grace programs given

  pub exits-nowhere : HasNoRun runs r → (n : ℕ) → HasExited w r code shapes context_len context n → ⊥
  exits-nowhere none n h =
      let g : HasExited World r code shapes context_len context n = subst (λ z. HasExited z r code shapes context_len context n) (sym is) h in
      let s = shown runs r g.run g.there in
      none s.0 s.1

  module _ (run : RunWords) (there : slice_get runs r ≡ Some (Some run)) where
    same-run : (n : ℕ) (g : HasExited World r code shapes context_len context n) → run.view ≡ g.run
    same-run n g = same_Some run.view g.run (same_Some (Some run.view) (Some g.run)
        (sym (slice_get-map view_of runs r ∙ ap (option_map view_of) there) ∙ g.there))

    same-program : (n : ℕ) (g : HasExited World r code shapes context_len context n) → slice_get (map program_of programs) run.view.program ≡ Some g.program
    same-program n g = ap (λ (v : RunView). slice_get (map program_of programs) v.program) (same-run n g) ∙ g.loaded

    pub exits-unloaded : slice_get programs run.view.program ≡ None → (n : ℕ) → HasExited w r code shapes context_len context n → ⊥
    exits-unloaded none n h =
        let g : HasExited World r code shapes context_len context n = subst (λ z. HasExited z r code shapes context_len context n) (sym is) h in
        none-some g.program (sym (slice_get-map program_of programs run.view.program ∙ ap (option_map program_of) none) ∙ same-program n g)

    module _ (program : Loaded) (loaded : slice_get programs run.view.program ≡ Some program) (bound : IsBound (shapes_of_maps maps) program) where
      program-is : (n : ℕ) (g : HasExited World r code shapes context_len context n) → program_of program ≡ g.program
      program-is n g = same_Some (program_of program) g.program
          (sym (slice_get-map program_of programs run.view.program ∙ ap (option_map program_of) loaded) ∙
          same-program n g)

      -- what is asked of a run and its program
      abbrev IsAsked : Type 0
      IsAsked = ((program.verified.program ≡ code) × (program.verified.shapes ≡ shapes) ×
          (program.verified.ctx_len ≡ context_len)) × (run.view.context ≡ context)

      same-shapes : (n : ℕ) (g : HasExited World r code shapes context_len context n) → program.verified.shapes ≡ shapes
      same-shapes n g = all-some program.verified.shapes shapes
          (sym bound ∙ (ap (λ (p : machine.Loaded). map (slice_get (shapes_of_maps maps)) p.maps) (program-is n g) ∙
          g.bound))

      asked : (n : ℕ) (g : HasExited World r code shapes context_len context n) → IsAsked
      asked n g = (
        (
          ap (λ (p : machine.Loaded). p.code) (program-is n g) ∙ g.code_is,
          same-shapes n g,
          ap (λ (p : machine.Loaded). p.context_len) (program-is n g) ∙ g.context_len_is,
        ),
        ap (λ (v : RunView). v.context) (same-run n g) ∙ g.context_is,
      )

      pub exits-other : (IsAsked → ⊥) → (n : ℕ) → HasExited w r code shapes context_len context n → ⊥
      exits-other other n h =
          let g : HasExited World r code shapes context_len context n = subst (λ z. HasExited z r code shapes context_len context n) (sym is) h in
          other (asked n g)

      pub exits-some : IsAsked → (o : Option ℕ) → o ≡ run.view.exit → IfSome o (λ n. HasExited w r code shapes context_len context n)
      exits-some same None e = tt
      exits-some same (Some n) e =
          let g : HasExited World r code shapes context_len context n = record {
            run = run.view;
            there = slice_get-map view_of runs r ∙ ap (option_map view_of) there;
            program = program_of program;
            loaded = slice_get-map program_of programs run.view.program ∙ ap (option_map program_of) loaded;
            code_is = same.0.0;
            bound = bound ∙ ap (map Some) same.0.1;
            context_len_is = same.0.2;
            context_is = same.1;
            ended = sym e;
          } in
          subst (λ z. HasExited z r code shapes context_len context n) is g

      pub exits-none : (o : Option ℕ) → o ≡ run.view.exit → IfNone o ((n : ℕ) → HasExited w r code shapes context_len context n → ⊥)
      exits-none (Some n) e = tt
      exits-none None e = λ n h. (
          let g : HasExited World r code shapes context_len context n = subst (λ z. HasExited z r code shapes context_len context n) (sym is) h in
          none-some n (e ∙ (ap (λ (v : RunView). v.exit) (same-run n g) ∙ g.ended)))
