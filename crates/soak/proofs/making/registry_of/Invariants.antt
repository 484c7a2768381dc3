use Rattle.bpf_model.proofs.Prelude.{AreNewMaps}
use Rattle.soak.proofs.making.registry_of.Given as goal

abbrev pub invariant-loop-map : goal.invariant-loop-map
invariant-loop-map l = AreNewMaps l.registry.maps
