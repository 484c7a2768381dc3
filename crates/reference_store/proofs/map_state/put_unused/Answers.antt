use Rattle.bpf_model.proofs.Prelude.{[], ◌∷◌, ◌++◌, ap, ◌∙◌, append_assoc, replicate, replicate-append-replicate}
use Rattle.reference_store.proofs.map_state.put_unused.Goals as goal

pub loop-preserved : goal.loop-preserved
loop-preserved c =
    c.in_ok-push.ensures.items ∙ ap (λ xs. xs ++ 0 ∷ []) c.loop.invariant ∙ append_assoc c.args.bag.now.items (replicate c.loop.counter 0) (0 ∷ [])
    ∙ ap (λ xs. c.args.bag.now.items ++ xs) (replicate-append-replicate c.loop.counter 1 0)
