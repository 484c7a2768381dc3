use Rattle.bpf_model.proofs.Prelude.{◌≡◌, false, replicate}
use Rattle.reference_model.proofs.machine.none_awaited.Given as goal

abbrev pub invariant-loop : goal.invariant-loop
invariant-loop l = l.awaited.items ≡ replicate l.counter false
