use Rattle.bpf_model.proofs.Prelude.{◌≡◌, ◌++◌, take, drop, map}
use Rattle.model_laws.proofs.Prelude.{turned_view}
use Rattle.maps.proofs.registry.advance_each.Given as goal

abbrev pub invariant-loop-chosen : goal.invariant-loop-chosen
invariant-loop-chosen l = l.maps ≡ map turned_view (take l.chosen-index l.initial.maps) ++ drop l.chosen-index l.initial.maps
