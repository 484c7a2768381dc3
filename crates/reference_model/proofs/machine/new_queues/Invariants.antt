use Rattle.bpf_model.proofs.Prelude.{◌≡◌, map, replicate, no_queues}
use Rattle.reference_store.specs.State.{queues_of}
use Rattle.reference_model.proofs.machine.new_queues.Given as goal

abbrev pub invariant-loop : goal.invariant-loop
invariant-loop l = map queues_of l.queues.items ≡ replicate l.counter no_queues
