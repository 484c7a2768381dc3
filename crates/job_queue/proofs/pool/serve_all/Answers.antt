use Rattle.std.proofs.Common.{rules, ◌≡◌, length}
use Rattle.std.proofs.lemmas.List.{nil_from_length}
use Rattle.job_queue.proofs.Turns.{none_shared}
use Rattle.job_queue.proofs.pool.serve_all.Goals as goal

pub returns-then-is_empty-clause-shared_out : goal.returns-then-is_empty-clause-shared_out
returns-then-is_empty-clause-shared_out g c =
    let none : length c.args.jobs.now ≡ 0 = search rules in
    none_shared (g.S.Serve.gains c.args.serve.now) c.args.jobs.now c.args.workers.now.items c.new.result.items
    (nil_from_length c.args.jobs.now none) c.new.ensures.items
