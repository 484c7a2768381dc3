use Rattle.bpf_model.proofs.Prelude.{◌≡◌, ◌+◌, ◌<◌, ◌++◌, ℕ, List, length, get_or, ap, sym, ◌∙◌, arith}
use Rattle.worker_pool.specs.Lines.{job_line}
use Rattle.worker_pool.proofs.JobLines.{next_line}
use Rattle.worker_pool.proofs.lines.make_lines.Goals as goal

pub loop-index-preserved : goal.loop-index-preserved
loop-index-preserved c =
    let outcomes = c.args.outcomes.now in
    let n = c.loop-index.index in
    let outcome = c.index-outcomes-index.result in
    let number = c.args.first + n in
    let inside : n < length outcomes = omega arith in
    let at : get_or outcomes n outcome ≡ outcome = sym c.index-outcomes-index.is in
    let wrote : c.write_job.new.out.items ≡ c.loop-index.text.items ++ job_line number outcome = c.in_ok-write_job.ensures in
    wrote ∙ (ap (λ (l : List ℕ). l ++ job_line number outcome) c.loop-index.invariant ∙ next_line c.args.first outcomes n outcome inside at)
