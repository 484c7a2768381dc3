use Rattle.bpf_model.proofs.Prelude.{◌≡◌, map, take, slice_get, Some, shapes_of_maps}
use Rattle.world.proofs.binding.have_shapes.Given as goal

abbrev pub invariant-loop-i : goal.invariant-loop-i
invariant-loop-i l = map (slice_get (shapes_of_maps l.registry.maps)) (take l.i l.numbers) ≡ map Some (take l.i l.asked)
