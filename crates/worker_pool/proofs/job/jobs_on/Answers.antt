use Rattle.bpf_model.proofs.Prelude.{◌≡◌, arith, refl, All-nil}
use Rattle.worker_pool.specs.declared.job.Job.{Job}
use Rattle.worker_pool.proofs.job.jobs_on.Goals as goal

pub loop-index-init : goal.loop-index-init
loop-index-init c = record {
  room = omega (arith, c.in_ok-jobs.ensures.capacity);
  long = rw c.in_ok-jobs.ensures.items refl;
  progs = rw c.in_ok-jobs.ensures.items (All-nil (λ (job : Job). job.prog ≡ 0));
  are = rw c.in_ok-jobs.ensures.items refl;
}
