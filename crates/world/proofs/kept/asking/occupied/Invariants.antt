use Rattle.bpf_model.proofs.Prelude.{◌≡◌, ◌≤◌, take, count_by, is_some}
use Rattle.world.proofs.kept.asking.occupied.Given as goal

abbrev pub invariant-loop-run : goal.invariant-loop-run
invariant-loop-run l = (l.count ≡ count_by is_some (take l.run-index l.runs)) × (l.count ≤ l.run-index)
