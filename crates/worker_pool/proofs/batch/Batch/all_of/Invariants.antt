use Rattle.bpf_model.proofs.Prelude.{◌+◌, ◌≤◌, ◌-◌, length}
use Rattle.worker_pool.specs.Batches.{AreBatches}
use Rattle.worker_pool.proofs.batch.Batch.all_of.Given as goal

abbrev pub invariant-loop-next : goal.invariant-loop-next
invariant-loop-next l = record {
  within : l.next ≤ l.end;
  are : AreBatches l.first l.batches.items l.next;
  few : l.first + length l.batches.items ≤ l.next;
}

abbrev pub decreases-loop-next : goal.decreases-loop-next
decreases-loop-next l = l.end - l.next
