use Rattle.std.proofs.Common.{◌≡◌, ap, sym, ◌∙◌, length}
use Rattle.std.specs.Prelude.{IfOk}
use Rattle.std.specs.List.{AllZip, flat_map}
use Rattle.std.proofs.lemmas.Result.{IfOk-weaker}
use Rattle.std.proofs.lemmas.Slice.Zip.{AllZip-long}
use Rattle.job_queue.specs.Blocks.{jobs_of}
use Rattle.job_queue.specs.Serving.{IsServedByOne}
use Rattle.job_queue.proofs.BlockResults.{at_each_index, joined_in_order}
use Rattle.job_queue.proofs.Turns.{shared_out}
use Rattle.job_queue.proofs.pool.serve_in_blocks.Given as given
use Rattle.job_queue.proofs.pool.serve_in_blocks.Goals as goal

-- the results stand in the jobs' order
in_order : (g : given.Over) (c : goal.After-drop-blocks-2 g) →
    IfOk c.join.result (λ v. AllZip (IsServedByOne (g.S.Serve.fits c.args.serve.now) c.args.workers.now.items
    c.serve_each.new.workers.items) c.args.jobs.now v.items)
in_order g c =
    let served = c.in_ok-served.served in
    let blocks = c.as_slice-2.result.now in
    let long : length served.items ≡ length blocks = sym served.ok.0 ∙ c.in_ok-served.ensures.count in
    joined_in_order (g.S.Serve.fits c.args.serve.now) c.args.workers.now.items c.serve_each.new.workers.items c.args.jobs.now blocks served.items c.join.result
    (ap (flat_map jobs_of) c.as_slice-2.ensures.value ∙ c.in-Ok.ensures.jobs) long c.in_ok-served.ensures.each c.join.ensures.joined c.join.ensures.whole

-- src/pool.rt:172:1
pub returns-clause-count : goal.returns-clause-count
returns-clause-count g c =
    IfOk-weaker c.join.result _ _ (λ v right. v.ok.0 ∙
    AllZip-long (IsServedByOne (g.S.Serve.fits c.args.serve.now) c.args.workers.now.items
    c.serve_each.new.workers.items) c.args.jobs.now v.items right) (in_order g c)

-- src/pool.rt:172:1
pub returns-clause-each : goal.returns-clause-each
returns-clause-each g c =
    IfOk-weaker c.join.result _ _ (λ v right. at_each_index
    (IsServedByOne (g.S.Serve.fits c.args.serve.now) c.args.workers.now.items c.serve_each.new.workers.items)
    c.args.jobs.now v.items right) (in_order g c)

pub returns-clause-shared_out : goal.returns-clause-shared_out
returns-clause-shared_out g c =
    let served = c.in_ok-served.served in
    let blocks = c.as_slice-2.result.now in
    let long : length served.items ≡ length blocks = sym served.ok.0 ∙ c.in_ok-served.ensures.count in
    shared_out (g.S.Serve.gains c.args.serve.now) c.args.jobs.now c.args.workers.now.items c.serve_each.new.workers.items blocks served.items c.join.result
    (ap (flat_map jobs_of) c.as_slice-2.ensures.value ∙ c.in-Ok.ensures.jobs) long c.join.ensures.joined c.join.ensures.whole c.in_ok-served.ensures.turns
