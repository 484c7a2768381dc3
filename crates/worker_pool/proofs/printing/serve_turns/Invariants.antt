use Rattle.bpf_model.proofs.Prelude.{◌≡◌, ◌≤◌, vec_capacity}
use Rattle.worker_pool.specs.Batches.{AreOutcomes}
use Rattle.worker_pool.specs.Trails.{IsLater}
use Rattle.worker_pool.proofs.printing.serve_turns.Given as goal

abbrev pub invariant-loop-index : goal.invariant-loop-index
invariant-loop-index g l = record {
  held_is : l.held ≡ l.shared;
  later : IsLater l.fn.worker l.worker;
  room : l.batch.count ≤ vec_capacity l.outcomes;
  are : AreOutcomes l.shared l.jobs l.batch.first l.index l.outcomes.items;
}
