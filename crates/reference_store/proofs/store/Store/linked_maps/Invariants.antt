use Rattle.bpf_model.proofs.Prelude.{◌≡◌, ◌++◌, map, drop}
use Rattle.reference_store.specs.State.{elements_of}
use Rattle.reference_store.specs.Retiring.{linked_map}
use Rattle.reference_store.proofs.store.Store.linked_maps.Given as goal

abbrev pub invariant-loop-n : goal.invariant-loop-n
invariant-loop-n l = map linked_map (elements_of l.self.elements.items) ≡ l.maps.items ++ map linked_map (drop l.n (elements_of l.self.elements.items))
