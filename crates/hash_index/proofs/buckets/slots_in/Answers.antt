use Rattle.bpf_model.proofs.Prelude.{◌∙◌, ◌+◌, ◌++◌, ℕ, List, Option, None, sym, ap, drop, length, append_assoc, slice_index_or, slice_get-get_or, drop_more}
use Rattle.element_store.proofs.Prelude.{link_at, chain_of}
use Rattle.hash_index.specs.Buckets.{slots_from}
use Rattle.hash_index.proofs.Changes.{home_chain}
use Rattle.hash_index.proofs.buckets.slots_in.Goals as goal

pub add_chain-requires : goal.add_chain-requires
add_chain-requires c = home_chain c.args.heads.now c.args.arena.now c.loop-head.head-index
    (slice_index_or c.args.heads.now c.loop-head.head-index None) c.requires
    (slice_get-get_or c.args.heads.now c.loop-head.head-index None c.loop-head-test.true)

pub loop-head-preserved : goal.loop-head-preserved
loop-head-preserved c =
    let a = c.args.arena.now in
    let n = length a.slots in
    let next = link_at a.links in
    let heads = c.args.heads.now in
    let head = slice_index_or heads c.loop-head.head-index None in
    let rest = slots_from n next (drop (c.loop-head.head-index + 1) heads) in
    ap (λ (l : List ℕ). l ++ rest) c.in_ok-add_chain.ensures
    ∙ (append_assoc c.loop-head.slots.items (chain_of a head) rest
    ∙ (ap (λ (l : List (Option ℕ)). c.loop-head.slots.items ++ slots_from n next l)
    (sym (drop_more heads c.loop-head.head-index None c.loop-head-test.true)) ∙ c.loop-head.invariant))
