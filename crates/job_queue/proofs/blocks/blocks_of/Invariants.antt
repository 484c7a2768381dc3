use Rattle.std.proofs.Common.{◌≡◌, ◌++◌, length}
use Rattle.std.specs.List.{flat_map}
use Rattle.job_queue.specs.Blocks.{jobs_of}
use Rattle.job_queue.proofs.blocks.blocks_of.Given as goal

abbrev pub invariant-loop-rest : goal.invariant-loop-rest
invariant-loop-rest g l = flat_map jobs_of l.blocks.items ++ l.rest ≡ l.fn.jobs

abbrev pub decreases-loop-rest : goal.decreases-loop-rest
decreases-loop-rest g l = length l.rest
