use Rattle.std.proofs.Common.{◌≡◌, ◌+◌, ◌≤◌, [], vec_len, vec_capacity, map}
use Rattle.std.specs.Prelude.{All}
use Rattle.crossbeam_queue.specs.Passes.{view, IsPassOf}
use Rattle.job_queue.specs.Numbers.{putter}
use Rattle.job_queue.specs.Stations.{IsNewStation}
use Rattle.job_queue.specs.Sheet.{worker_of}
use Rattle.job_queue.proofs.pool.stations_of.Given as goal

abbrev pub invariant-loop-worker : goal.invariant-loop-worker
invariant-loop-worker g l = record {
  pass : IsPassOf l.queue l.pass;
  view_is : view l.pass ≡ putter (view l.fn.pass).next (vec_len l.stations) [];
  ready : All (g.S.Serve.ready l.serve) l.worker-iterator.rest.items;
  fresh : All (IsNewStation (IsPassOf l.queue) (g.S.Serve.ready l.serve)) l.stations.items;
  stations : map worker_of l.stations.items ≡ l.yielded;
  room : vec_len l.fn.workers ≤ vec_capacity l.stations + l.first;
}
