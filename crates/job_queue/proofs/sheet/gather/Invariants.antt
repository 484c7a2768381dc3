use Rattle.std.proofs.Common.{◌≡◌, ◌⊎◌, ◌++◌, ◌<◌, ℕ, true, map, vec_len, vec_capacity, Some, length}
use Rattle.std.specs.Prelude.{slice_get, All}
use Rattle.crossbeam_queue.specs.Passes.{view, IsPassOf}
use Rattle.job_queue.specs.Numbers.{times, WasTaken}
use Rattle.job_queue.specs.Stations.{IsKept, times_taken}
use Rattle.job_queue.specs.Sheet.{HasLine, StandsIn, worker_of}
use Rattle.job_queue.proofs.sheet.gather.Given as goal

abbrev pub invariant-loop-station : goal.invariant-loop-station
invariant-loop-station g l = record {
  pass : IsPassOf l.queue l.pass;
  puts : (view l.pass).puts ≡ true;
  takes : (view l.pass).takes ≡ true;
  next : (view l.pass).next ≡ vec_len l.fn.sheet.lines;
  out : (view l.pass).out ≡ length l.station-iterator.rest.items;
  kept : All (IsKept (IsPassOf l.queue) (vec_len l.fn.sheet.lines)) l.station-iterator.rest.items;
  workers : l.workers.items ≡ l.fn.workers.items ++ map worker_of l.yielded;
  capacity : vec_capacity l.workers ≡ vec_capacity l.fn.workers;
  count : vec_len l.sheet.lines ≡ vec_len l.fn.sheet.lines;
  lines : (k : ℕ) (served : g.row.T.Denot) → slice_get l.sheet.lines.items k ≡ Some (Some served) →
      (slice_get l.fn.sheet.lines.items k ≡ Some (Some served)) ⊎ StandsIn l.yielded k served;
  taken : (k : ℕ) → k < vec_len l.fn.sheet.lines → WasTaken k (view l.pass).taken → HasLine l.sheet.lines.items k;
  counted : (k : ℕ) → times k (view l.pass).taken ≡ times_taken k l.yielded;
}
