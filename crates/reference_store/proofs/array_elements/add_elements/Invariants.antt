use Rattle.bpf_model.proofs.Prelude.{◌≡◌, ◌++◌, map, range_with_len, array_element}
use Rattle.reference_store.specs.State.{elements_of}
use Rattle.reference_store.proofs.array_elements.add_elements.Given as goal

abbrev pub invariant-loop-index : goal.invariant-loop-index
invariant-loop-index l = elements_of l.elements.items ≡ elements_of l.initial.elements.items ++ map (array_element l.map l.shape) (range_with_len 0 l.index)
