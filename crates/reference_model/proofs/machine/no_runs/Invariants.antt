use Rattle.bpf_model.proofs.Prelude.{◌≡◌, None, replicate}
use Rattle.reference_model.proofs.machine.no_runs.Given as goal

abbrev pub invariant-loop : goal.invariant-loop
invariant-loop l = l.runs.items ≡ replicate l.counter None
