use Rattle.bpf_model.proofs.Prelude.{◌-◌, length}
use Rattle.machine.proofs.Prelude.{IsOn, words_of}
use Rattle.shared_runs.specs.Running.{HasComeTo}
use Rattle.shared_runs.proofs.running.finish.Given as goal

abbrev pub invariant-steps : goal.invariant-steps
invariant-steps g l = IsOn l.fn.verified l.course × HasComeTo (g.T.ServesRuns.table l.fn.words) (g.T.ServesRuns.Goes l.fn.words)
    l.fn.verified l.context l.fn.seat l.seat (words_of l.fn.verified l.context l.course l.workspace)

abbrev pub decreases-steps : goal.decreases-steps
decreases-steps g l = length l.fn.verified.program - l.course.moved
