use Rattle.bpf_model.proofs.Prelude.{◌≡◌, ◌++◌, map, drop, take, without_first}
use Rattle.reference_store.specs.State.{queues_of}
use Rattle.reference_store.proofs.queues.take_first.Given as goal

abbrev pub invariant-loop-k : goal.invariant-loop-k
invariant-loop-k l = record {
  same : l.queues ≡ l.fn.queues;
  left : without_first (map queues_of l.fn.queues) ≡ take l.k (map queues_of l.fn.queues) ++ without_first (drop l.k (map queues_of l.fn.queues));
}
