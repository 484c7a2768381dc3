use Rattle.bpf_model.proofs.Prelude.{◌≡◌, ◌∙◌, ℕ, List, Some, sym, ap, subst, get_or, slice_get, slice_set, none-some, same_Some, get_or_from_slice_get}
use Rattle.machine.proofs.Prelude.{RunWords, IsAt, IsValidRun, IsBefore, WalksOn}
use Rattle.verifier.proofs.Prelude.{IsJustified}
use Rattle.world.specs.declared.kept.loaded.Loaded.{Loaded}
use Rattle.world.proofs.kept.walk.walk_slot.Goals as goal

-- what stands at an index is what was found there
found : {X : Type 0} (xs : List X) (i k : ℕ) (x d : X) → d ≡ get_or xs i d → i ≡ k → slice_get xs k ≡ Some x → d ≡ x
found xs i k x d is same there = is ∙ get_or_from_slice_get xs i x d (ap (slice_get xs) same ∙ there)

pub walk-requires : goal.walk-requires
walk-requires c =
    let run = c.requires.run in
    let here : c.index_mut.result.now ≡ Some run = found c.args.runs.now.items c.index.result c.args.run_slot
    (Some run) c.index_mut.result.now c.index_mut.ensures.value c.index.ensures c.requires.there in
    let same : c.in-Some.run' ≡ run = same_Some c.in-Some.run' run (sym c.in-Some.is ∙ here) in
    let number : c.program.result ≡ run.view.program = c.program.ensures ∙ ap (λ (x : RunWords). x.view.program) same in
    let loaded : c.index-loaded.result.now ≡ c.requires.loaded =
    found c.args.programs.now.items c.program.result run.view.program c.requires.loaded c.index-loaded.result.now
    c.index-loaded.ensures number c.requires.of in
    let justified : IsJustified c.requires.loaded.verified =
    subst (λ (l : Loaded). IsJustified l.verified) loaded c.program-justified.ensures.justified in
    subst (λ (l : Loaded). IsValidRun l.verified c.in-Some.run') (sym loaded)
    (subst (IsValidRun c.requires.loaded.verified) (sym same) (c.requires.stands justified))

pub unreachable-requires : goal.unreachable-requires
unreachable-requires c =
    let run = c.requires.run in
    let here : c.index_mut.result.now ≡ Some run = found c.args.runs.now.items c.index.result c.args.run_slot
    (Some run) c.index_mut.result.now c.index_mut.ensures.value c.index.ensures c.requires.there in
    none-some run (sym c.in-None.is ∙ here)

pub returns-clause-walked : goal.returns-clause-walked
returns-clause-walked c =
    let run = c.requires.run in
    let here : c.index_mut.result.now ≡ Some run = found c.args.runs.now.items c.index.result c.args.run_slot
    (Some run) c.index_mut.result.now c.index_mut.ensures.value c.index.ensures c.requires.there in
    let same : c.in-Some.run' ≡ run = same_Some c.in-Some.run' run (sym c.in-Some.is ∙ here) in
    let number : c.program.result ≡ run.view.program = c.program.ensures ∙ ap (λ (x : RunWords). x.view.program) same in
    let loaded : c.index-loaded.result.now ≡ c.requires.loaded =
    found c.args.programs.now.items c.program.result run.view.program c.requires.loaded c.index-loaded.result.now
    c.index-loaded.ensures number c.requires.of in
    let new = c.walk.new.self in
    record {
      run = run;
      there = c.requires.there;
      loaded = c.requires.loaded;
      of = c.requires.of;
      new = new;
      runs_are = ap (λ k. slice_set c.args.runs.now.items k (Some new)) c.index.ensures;
      moves =
          subst (λ (l : Loaded). WalksOn l.verified run.view c.walk.result.moved new.view) loaded
          (subst (λ (x : RunWords). WalksOn c.index-loaded.result.now.verified x.view c.walk.result.moved new.view) same c.walk.ensures.moves);
      before = subst (λ (l : Loaded). IsBefore c.walk.result.end l.verified new.view) loaded c.walk.ensures.before;
      stands = subst (λ (l : Loaded). IsAt l.verified.program new) loaded c.walk.ensures.stands.at;
    }
