use Rattle.job_queue.proofs.Serving.{all_zip_same}
use Rattle.job_queue.proofs.pool.unchanged.Goals as goal

pub returns : goal.returns
returns g c = all_zip_same g.S.Serve.later g.met.S.Serve.later_same c.args.workers.now
