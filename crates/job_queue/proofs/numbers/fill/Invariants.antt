use Rattle.std.proofs.Common.{◌≡◌, []}
use Rattle.crossbeam_queue.specs.Passes.{view, IsPassOf}
use Rattle.job_queue.specs.Numbers.{putter}
use Rattle.job_queue.proofs.numbers.fill.Given as goal

abbrev pub invariant-loop-number : goal.invariant-loop-number
invariant-loop-number g l = IsPassOf l.queue l.pass × (view l.pass ≡ putter l.number 0 [])
