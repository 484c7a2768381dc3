use Rattle.bpf_model.proofs.Prelude.{◌≡◌, ap, rules, nat_cmp, is_lt, slice_cmp, nat_list_cmp_total, ranks_by}
use Rattle.element_store.proofs.Prelude.{key_at}
use Rattle.std.proofs.lemmas.Fn.{always_returns_same}
use Rattle.hash_index.proofs.buckets.sort_slots.Goals as goal

pub returns-clause-order : goal.returns-clause-order
returns-clause-order c =
    let key = key_at c.args.arena.now.slots in
    c.sort_unstable_by.ensures.sorted (λ x y. is_lt (slice_cmp nat_cmp (key x) (key y))) (ranks_by nat_list_cmp_total key)
    (always_returns_same _ (λ a r. is_lt r ≡ is_lt (slice_cmp nat_cmp (key a.0.now) (key a.1.0.now))) _
    (λ a r q k. let h : r ≡ slice_cmp nat_cmp (key a.0.now) (key a.1.0.now) = search rules in (ap is_lt h, search rules)))
