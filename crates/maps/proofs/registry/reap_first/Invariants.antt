use Rattle.bpf_model.proofs.Prelude.{◌≡◌}
use Rattle.maps.proofs.Picking.{NoneReadyBefore}
use Rattle.maps.proofs.registry.reap_first.Given as goal

abbrev pub invariant-loop-number : goal.invariant-loop-number
invariant-loop-number l = (l.maps ≡ l.initial.maps) × NoneReadyBefore l.initial.maps l.number
