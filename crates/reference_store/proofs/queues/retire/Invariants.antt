use Rattle.bpf_model.proofs.Prelude.{◌≡◌, ◌++◌, List, map, drop, Element, unlinked_between}
use Rattle.reference_store.specs.State.{elements_of}
use Rattle.reference_store.specs.Retiring.{linked_map}
use Rattle.reference_store.proofs.queues.retire.Given as goal

abbrev pub invariant-loop-n : goal.invariant-loop-n
invariant-loop-n l = record {
  next : (olds : List Element) → l.before ≡ map linked_map olds →
      l.fn.queues.next.items ++ unlinked_between l.k 0 olds (elements_of l.elements) ≡ l.queues.next.items ++
      unlinked_between l.k l.n (drop l.n olds) (drop l.n (elements_of l.elements));
  waiting : l.queues.waiting ≡ l.fn.queues.waiting;
  ready : l.queues.ready ≡ l.fn.queues.ready;
}
