use Rattle.worker_pool.proofs.Moving.{is_next}
use Rattle.worker_pool.proofs.pooled.serve_held.Goals as goal

pub returns-in-Ok-clause-only : goal.returns-in-Ok-clause-only
returns-in-Ok-clause-only g c =
    let s = c.act_noted-start in
    let e = s.ensures in
    let next = is_next c.args.worker.now s.new.worker s.result.made s.result.reply e.noted.count e.noted.made e.noted.err in
    c.finish_job.ensures.only c.args.worker.now next
