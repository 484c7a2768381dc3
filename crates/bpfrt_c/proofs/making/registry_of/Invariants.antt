use Rattle.std.proofs.Common.{◌≡◌, map, take}
use Rattle.bpf_model.specs.View.{new_map_view}
use Rattle.bpfrt_c.proofs.making.registry_of.Given as goal

abbrev pub invariant-loop-map : goal.invariant-loop-map
invariant-loop-map l = l.registry.maps ≡ map new_map_view (take l.map l.shapes)
