use Rattle.job_queue.proofs.Serving.{all_zip_same}
use Rattle.worker_pool.specs.Trails.{IsLater}
use Rattle.worker_pool.specs.TrailLemmas.{later_same}
use Rattle.worker_pool.proofs.pool.unchanged.Goals as goal

pub returns : goal.returns
returns g c = all_zip_same IsLater later_same c.args.workers.now
