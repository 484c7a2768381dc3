use Rattle.std.proofs.Common.{◌≡◌}
use Rattle.std.specs.Prelude.{All, IsSome}
use Rattle.std.specs.List.{flat_map}
use Rattle.job_queue.specs.Blocks.{results_of}
use Rattle.job_queue.proofs.blocks.join.Given as goal

abbrev pub invariant-loop-block : goal.invariant-loop-block
invariant-loop-block g l = (l.results.items ≡ flat_map results_of l.yielded) × All IsSome l.yielded
