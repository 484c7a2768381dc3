use Rattle.std.proofs.Common.{◌≡◌, vec_capacity, map, Some}
use Rattle.std.specs.Prelude.{All, IsSome}
use Rattle.job_queue.proofs.sheet.Sheet.read_out.Given as goal

abbrev pub invariant-loop-line : goal.invariant-loop-line
invariant-loop-line g l = (map Some l.results.items ≡ l.yielded) × (vec_capacity l.results ≡ vec_capacity l.fn.results)
    × All IsSome l.line-iterator.rest.items
