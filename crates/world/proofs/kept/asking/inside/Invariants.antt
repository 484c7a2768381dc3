use Rattle.bpf_model.proofs.Prelude.{◌≡◌, ◌≤◌, take, count_by}
use Rattle.world.specs.Keeping.{is_run_inside}
use Rattle.world.proofs.kept.asking.inside.Given as goal

abbrev pub invariant-loop-run : goal.invariant-loop-run
invariant-loop-run l = (l.count ≡ count_by is_run_inside (take l.run-index l.runs)) × (l.count ≤ l.run-index)
