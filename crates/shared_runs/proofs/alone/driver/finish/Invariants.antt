use Rattle.bpf_model.proofs.Prelude.{◌-◌, length}
use Rattle.shared_runs.proofs.LoopingAlone.{StandsBefore}
use Rattle.shared_runs.proofs.alone.driver.finish.Given as goal

abbrev pub invariant-steps : goal.invariant-steps
invariant-steps l = StandsBefore l.verified l.context l.index l.moved l.workspace

abbrev pub decreases-steps : goal.decreases-steps
decreases-steps l = length l.verified.program - l.moved
