use Rattle.std.proofs.Common.{rules, ◌≡◌, ◌++◌, ◌∷◌, [], subst, take, ◌+◌}
use Rattle.std.specs.List.{AllZip}
use Rattle.job_queue.specs.Turns.{ServesEach}
use Rattle.job_queue.proofs.BlockResults.{one_more_result}
use Rattle.job_queue.proofs.Turns.{one_more_served}
use Rattle.job_queue.proofs.blocks.serve_block.Goals as goal

-- src/blocks.rt:61:5
pub loop-job-preserved : goal.loop-job-preserved
loop-job-preserved g c =
    let i = c.loop-job.invariant in
    let e = c.serve-served.ensures in
    let laws = g.met.S.Serve in
    let first = c.args.worker.now in
    let was = c.loop-job.worker in
    let is = c.serve-served.new.worker in
    let fits = g.S.Serve.fits c.args.serve.now in
    let gains = g.S.Serve.gains c.args.serve.now in
    let one = c.serve-served.result in
    let back : c.loop-job.results.items ++ one ∷ [] ≡ c.push_reserved.new.self.items = search rules in
    record {
      ready_now = e.ready;
      later_now = laws.later_again first was is i.later_now e.later;
      count = search rules;
      room = search rules;
      results = subst (AllZip (fits first is) (take (c.loop-job.job-index + 1) c.args.jobs.now)) back
          (one_more_result (fits first was) (fits first is)
          (λ job served. laws.fits_wider c.args.serve.now first first was is job served (laws.later_same first) e.later)
          c.args.jobs.now c.loop-job.job-index c.job-item.result c.loop-job.results.items one c.loop-job-test.true i.results
          (subst (λ z. fits first is z one) c.job-item.is
          (laws.fits_wider c.args.serve.now first was is is c.job-item.result one i.later_now (laws.later_same is)
          e.fits)));
      gained = subst (λ z. ServesEach gains first (take (c.loop-job.job-index + 1) c.args.jobs.now) z is) back
          (one_more_served gains first was is c.args.jobs.now c.loop-job.job-index c.job-item.result c.loop-job.results.items one
          c.loop-job-test.true i.gained (subst (λ z. gains was is z one) c.job-item.is e.gains));
    }
