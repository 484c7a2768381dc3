use Rattle.bpf_model.proofs.Prelude.{◌≡◌, ◌∙◌, ℕ, List, Some, sym, ap, subst, get_or, slice_get, slice_set, none-some, same_Some, get_or_from_slice_get}
use Rattle.machine.proofs.Prelude.{RunWords}
use Rattle.world.proofs.Prelude.{brief_answer, HasTaken}
use Rattle.world.specs.declared.kept.loaded.Loaded.{Loaded}
use Rattle.world.specs.Stepping.{MayTake}
use Rattle.world.proofs.kept.step.step_slot.Goals as goal

-- what stands at an index is what was found there
found : {X : Type 0} (xs : List X) (i k : ℕ) (x d : X) → d ≡ get_or xs i d → i ≡ k → slice_get xs k ≡ Some x → d ≡ x
found xs i k x d is same there = is ∙ get_or_from_slice_get xs i x d (ap (slice_get xs) same ∙ there)

pub step_run-requires : goal.step_run-requires
step_run-requires c =
    let run = c.requires.run in
    let here : c.index_mut.result.now ≡ Some run = found c.args.runs.now.items c.index.result c.args.run_slot
    (Some run) c.index_mut.result.now c.index_mut.ensures.value c.index.ensures c.requires.there in
    let same : c.in-Some.run' ≡ run = same_Some c.in-Some.run' run (sym c.in-Some.is ∙ here) in
    let number : c.program.result ≡ run.view.program = c.program.ensures ∙ ap (λ (x : RunWords). x.view.program) same in
    let loaded : c.index-loaded.result.now ≡ c.requires.loaded =
    found c.args.programs.now.items c.program.result run.view.program c.requires.loaded c.index-loaded.result.now
    c.index-loaded.ensures number c.requires.of in
    subst (λ (l : Loaded). MayTake l c.args.maps.now.maps c.args.grace.now c.args.run_slot c.in-Some.run') (sym loaded)
    (subst (λ (x : RunWords). MayTake c.requires.loaded c.args.maps.now.maps c.args.grace.now c.args.run_slot x) (sym same) c.requires.may)

pub unreachable-requires : goal.unreachable-requires
unreachable-requires c =
    let run = c.requires.run in
    let here : c.index_mut.result.now ≡ Some run = found c.args.runs.now.items c.index.result c.args.run_slot
    (Some run) c.index_mut.result.now c.index_mut.ensures.value c.index.ensures c.requires.there in
    none-some run (sym c.in-None.is ∙ here)

pub returns-clause-gone : goal.returns-clause-gone
returns-clause-gone c =
    let run = c.requires.run in
    let here : c.index_mut.result.now ≡ Some run = found c.args.runs.now.items c.index.result c.args.run_slot
    (Some run) c.index_mut.result.now c.index_mut.ensures.value c.index.ensures c.requires.there in
    let same : c.in-Some.run' ≡ run = same_Some c.in-Some.run' run (sym c.in-Some.is ∙ here) in
    let number : c.program.result ≡ run.view.program = c.program.ensures ∙ ap (λ (x : RunWords). x.view.program) same in
    let loaded : c.index-loaded.result.now ≡ c.requires.loaded =
    found c.args.programs.now.items c.program.result run.view.program c.requires.loaded c.index-loaded.result.now
    c.index-loaded.ensures number c.requires.of in
    record {
      run = run;
      there = c.requires.there;
      loaded = c.requires.loaded;
      of = c.requires.of;
      new = c.step_run.new.run;
      runs_are = ap (λ k. slice_set c.args.runs.now.items k (Some c.step_run.new.run)) c.index.ensures;
      taken =
          subst (λ (l : Loaded). HasTaken l c.args.run_slot run c.step_run.new.run c.args.maps.now.maps
          c.step_run.new.maps.maps c.args.grace.now c.step_run.new.grace (brief_answer c.step_run.result)) loaded
          (subst (λ (x : RunWords). HasTaken c.index-loaded.result.now c.args.run_slot x c.step_run.new.run
          c.args.maps.now.maps c.step_run.new.maps.maps c.args.grace.now c.step_run.new.grace
          (brief_answer c.step_run.result)) same c.step_run.ensures.taken);
    }
