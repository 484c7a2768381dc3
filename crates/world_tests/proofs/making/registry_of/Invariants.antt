use Rattle.bpf_model.proofs.Prelude.{AreNewMaps}
use Rattle.world_tests.proofs.making.registry_of.Given as goal

abbrev pub invariant-loop-number : goal.invariant-loop-number
invariant-loop-number l = AreNewMaps l.registry.maps
