use Rattle.bpf_model.proofs.Prelude.{ap, sym, ◌++◌, ◌∙◌, replicate, replicate-append-replicate, new_bag}
use Rattle.reference_store.proofs.map_state.new_bag.Goals as goal

pub returns-in_ok-put_unused-in-Hash-2 : goal.returns-in_ok-put_unused-in-Hash-2
returns-in_ok-put_unused-in-Hash-2 c =
    let shape = c.args.shape.now in
    let entries = c.in_ok-put_unused-in-Hash.ensures ∙ ap (λ xs. xs ++ replicate shape.entries 0) c.new-bag.ensures.items in
    c.in_ok-put_unused-in-Hash-2.ensures ∙ ap (λ xs. xs ++ replicate shape.spare 0) entries ∙ replicate-append-replicate shape.entries shape.spare 0
    ∙ ap (λ kind. new_bag kind shape) (sym c.in-Hash.is)
