use Rattle.bpf_model.proofs.Prelude.{◌≡◌, map, turned}
use Rattle.reference_store.specs.State.{queues_of}
use Rattle.reference_store.proofs.Queueing.{mixed}
use Rattle.reference_store.proofs.queues.turn_all.Given as goal

abbrev pub invariant-loop-k : goal.invariant-loop-k
invariant-loop-k l = map queues_of l.queues ≡ mixed (λ _ q. turned q) l.k 0 (map queues_of l.fn.queues)
