use Rattle.bpf_model.proofs.Prelude.{◌+◌, ◌≤◌, arith, ◌∙◌, err_from_is_err_and}
use Rattle.worker_pool.proofs.Batches.{part_of_more}
use Rattle.worker_pool.proofs.repeated.serve_blocks.Goals as goal

pub loop-first-preserved : goal.loop-first-preserved
loop-first-preserved g c =
    let at = c.loop-first.invariant in
    record {
      workers = c.serve_block.ensures.workers ∙ at.workers;
      within = omega arith;
      written = c.in_ok-serve_block.ensures.written (g.W.Write.contents c.args.out.now) at.written;
    }

pub returns-in_err-serve_block-clause-part : goal.returns-in_err-serve_block-clause-part
returns-in_err-serve_block-clause-part g c =
    let contents = g.W.Write.contents in
    let end = c.loop-first.first + c.min-some.result in
    let part = c.in_err-serve_block.ensures.part (contents c.args.out.now) c.loop-first.invariant.written in
    let up : end ≤ c.args.count = omega arith in
    let p = err_from_is_err_and c.from_residual.result c.from_residual.ensures.1 in
    rw (p.1, p.2) (λ program shapes contexts runs. part_of_more program shapes contexts end c.args.count (contents c.args.out.now)
    (contents c.serve_block.new.out) _ up (part program shapes contexts runs))
