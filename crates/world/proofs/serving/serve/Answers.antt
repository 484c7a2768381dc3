use Rattle.bpf_model.proofs.Prelude.{◌≡◌, ℕ, ◌<◌, sym, subst, get_or_from_slice_get}
use Rattle.element_store.proofs.Prelude.{depth_at}
use Rattle.model_laws.proofs.Prelude.{MAX_DEPTH}
use Rattle.world.proofs.Prelude.{Request, CanServe}
use Rattle.world.proofs.serving.serve.Goals as goal

pub enter-requires-clause-depth : goal.enter-requires-clause-depth
enter-requires-clause-depth c =
    let here : depth_at c.args.grace.now c.args.run_slot ≡ c.args.run.now.view.depth =
    get_or_from_slice_get c.args.grace.now.depths c.args.run_slot c.args.run.now.view.depth 0 c.requires.depth in
    let room : c.args.run.now.view.depth < MAX_DEPTH =
    subst (λ (a : Request). CanServe a c.args.bound.now c.args.maps.now.maps c.args.run.now.view) c.in-Enter.is
    c.requires.serve in
    subst (λ (d : ℕ). d < MAX_DEPTH) (sym here) room

pub leave-requires-clause-depth : goal.leave-requires-clause-depth
leave-requires-clause-depth c =
    let here : depth_at c.args.grace.now c.args.run_slot ≡ c.args.run.now.view.depth =
    get_or_from_slice_get c.args.grace.now.depths c.args.run_slot c.args.run.now.view.depth 0 c.requires.depth in
    let some : 0 < c.args.run.now.view.depth = subst (λ (a : Request).
    CanServe a c.args.bound.now c.args.maps.now.maps c.args.run.now.view) c.in-Leave.is c.requires.serve in
    subst (λ (d : ℕ). 0 < d) (sym here) some
