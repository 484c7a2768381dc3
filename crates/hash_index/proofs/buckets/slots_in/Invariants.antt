use Rattle.bpf_model.proofs.Prelude.{◌≡◌, ◌++◌, length, drop}
use Rattle.element_store.proofs.Prelude.{link_at}
use Rattle.hash_index.specs.Buckets.{chained_slots, slots_from}
use Rattle.hash_index.proofs.buckets.slots_in.Given as goal

-- the slots so far, which those of the other chains complete
abbrev pub invariant-loop-head : goal.invariant-loop-head
invariant-loop-head l =
    l.slots.items ++ slots_from (length l.arena.slots) (link_at l.arena.links) (drop l.head-index l.heads)
    ≡ chained_slots l.heads l.arena
