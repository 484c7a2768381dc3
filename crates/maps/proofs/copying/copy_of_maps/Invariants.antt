use Rattle.bpf_model.proofs.Prelude.{◌≡◌, take}
use Rattle.maps.proofs.copying.copy_of_maps.Given as goal

abbrev pub invariant-loop-chosen : goal.invariant-loop-chosen
invariant-loop-chosen l = l.copy.items ≡ take l.chosen-index l.maps
