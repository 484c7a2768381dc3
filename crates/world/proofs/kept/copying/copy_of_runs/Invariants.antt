use Rattle.bpf_model.proofs.Prelude.{◌≡◌, take}
use Rattle.world.proofs.kept.copying.copy_of_runs.Given as goal

abbrev pub invariant-loop-slot : goal.invariant-loop-slot
invariant-loop-slot l = l.copy.items ≡ take l.slot-index l.runs
