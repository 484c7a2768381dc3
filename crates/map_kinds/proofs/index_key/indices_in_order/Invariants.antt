use Rattle.bpf_model.proofs.Prelude.{index_key, index_below}
use Rattle.map_kinds.proofs.InOrder.{IsBegun, left_from}
use Rattle.map_kinds.proofs.index_key.indices_in_order.Given as goal

abbrev pub invariant-loop-next : goal.invariant-loop-next
invariant-loop-next l = IsBegun (index_below l.limit) index_key l.indices.items l.next

abbrev pub decreases-loop-next : goal.decreases-loop-next
decreases-loop-next l = left_from (index_below l.limit) index_key l.next
