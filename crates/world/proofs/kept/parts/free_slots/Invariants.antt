use Rattle.bpf_model.proofs.Prelude.{◌≡◌, None, replicate}
use Rattle.world.proofs.kept.parts.free_slots.Given as goal

abbrev pub invariant-loop : goal.invariant-loop
invariant-loop l = l.runs.items ≡ replicate l.counter None
