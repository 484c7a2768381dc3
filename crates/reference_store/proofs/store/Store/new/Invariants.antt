use Rattle.bpf_model.proofs.Prelude.{◌≡◌, ◌++◌, length, map, take, drop, new_map, all_new_elements}
use Rattle.reference_store.specs.State.{map_of, elements_of}
use Rattle.reference_store.proofs.store.Store.new.Given as goal

abbrev pub invariant-loop-shape : goal.invariant-loop-shape
invariant-loop-shape l = record {
  elements : all_new_elements 0 l.shapes ≡ elements_of l.store.elements.items ++ all_new_elements l.shape-index (drop l.shape-index l.shapes);
  maps : map map_of l.store.maps.items ≡ map new_map (take l.shape-index l.shapes);
  count : length l.store.maps.items ≡ l.shape-index;
}
