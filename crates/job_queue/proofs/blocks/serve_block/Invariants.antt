use Rattle.std.proofs.Common.{◌≡◌, ◌≤◌, take, length, vec_len, vec_capacity}
use Rattle.std.specs.List.{AllZip}
use Rattle.job_queue.specs.Turns.{ServesEach}
use Rattle.job_queue.proofs.blocks.serve_block.Given as goal

abbrev pub invariant-loop-job : goal.invariant-loop-job
invariant-loop-job g l = record {
  ready_now : g.S.Serve.ready l.serve l.worker;
  later_now : g.S.Serve.later l.fn.worker l.worker;
  count : vec_len l.results ≡ l.job-index;
  room : length l.fn.jobs ≤ vec_capacity l.results;
  results : AllZip (g.S.Serve.fits l.serve l.fn.worker l.worker) (take l.job-index l.fn.jobs) l.results.items;
  gained : ServesEach (g.S.Serve.gains l.serve) l.fn.worker (take l.job-index l.fn.jobs) l.results.items l.worker;
}
