use Rattle.bpf_model.proofs.Prelude.{◌≡◌, replicate}
use Rattle.commands.proofs.contexts.zeros.Given as goal

abbrev pub invariant-loop : goal.invariant-loop
invariant-loop l = l.bytes.items ≡ replicate l.counter 0
