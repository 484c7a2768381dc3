use Rattle.bpf_model.proofs.Prelude.{◌≡◌, map, drop, first_ready}
use Rattle.reference_store.specs.State.{queues_of}
use Rattle.reference_store.proofs.queues.first_ready.Given as goal

abbrev pub invariant-loop-k : goal.invariant-loop-k
invariant-loop-k l = first_ready (map queues_of l.queues) ≡ first_ready (drop l.k (map queues_of l.queues))
