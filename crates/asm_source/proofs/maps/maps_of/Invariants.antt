use Rattle.bpf_model.proofs.Prelude.{◌≡◌, ◌++◌, length}
use Rattle.asm_source.specs.Maps.{texts, map_names_in, maps_in}
use Rattle.asm_source.proofs.maps.maps_of.Given as goal

abbrev pub invariant-loop-line : goal.invariant-loop-line
invariant-loop-line l = texts l.names.items ++ map_names_in l.lines ≡ maps_in l.head

abbrev pub decreases-loop-line : goal.decreases-loop-line
decreases-loop-line l = length l.lines
