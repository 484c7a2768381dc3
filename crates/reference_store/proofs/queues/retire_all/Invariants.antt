use Rattle.bpf_model.proofs.Prelude.{◌≡◌, List, map, Element, retired_in}
use Rattle.reference_store.specs.State.{queues_of, elements_of}
use Rattle.reference_store.specs.Retiring.{linked_map}
use Rattle.reference_store.proofs.Queueing.{mixed}
use Rattle.reference_store.proofs.queues.retire_all.Given as goal

abbrev pub invariant-loop-k : goal.invariant-loop-k
invariant-loop-k l = (olds : List Element) → l.before ≡ map linked_map olds →
    map queues_of l.queues ≡ mixed (λ j. retired_in j olds (elements_of l.elements)) l.k 0 (map queues_of l.fn.queues)
