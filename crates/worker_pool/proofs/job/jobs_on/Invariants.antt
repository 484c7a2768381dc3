use Rattle.bpf_model.proofs.Prelude.{◌≡◌, ◌≤◌, All, length, map, take, vec_capacity}
use Rattle.worker_pool.specs.Outcomes.{contexts_of}
use Rattle.worker_pool.proofs.job.jobs_on.Given as goal

abbrev pub invariant-loop-index : goal.invariant-loop-index
invariant-loop-index l = record {
  room : length l.contexts ≤ vec_capacity l.jobs;
  long : length l.jobs.items ≡ l.index;
  progs : All (λ job. job.prog ≡ 0) l.jobs.items;
  are : map (λ job. job.ctx.items) l.jobs.items ≡ contexts_of (take l.index l.contexts);
}
