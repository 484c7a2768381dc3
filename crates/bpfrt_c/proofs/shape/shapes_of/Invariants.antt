use Rattle.std.proofs.Common.{◌≡◌, map, take, length, Some}
use Rattle.bpfrt_c.specs.Shapes.{shape_in_c}
use Rattle.bpfrt_c.proofs.shape.shapes_of.Given as goal

abbrev pub invariant-loop-map : goal.invariant-loop-map
invariant-loop-map l = (map Some l.read.items ≡ map shape_in_c (take l.map l.shapes)) × (length l.read.items ≡ l.map)
