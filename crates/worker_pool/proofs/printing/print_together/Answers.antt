use Rattle.bpf_model.proofs.Prelude.{ap, ◌∙◌, List}
use Rattle.worker_pool.specs.declared.job.Outcome.{Outcome}
use Rattle.worker_pool.specs.Lines.{job_lines}
use Rattle.worker_pool.proofs.printing.print_together.Goals as goal

pub returns-in-Ok-make_lines-clause-printed : goal.returns-in-Ok-make_lines-clause-printed
returns-in-Ok-make_lines-clause-printed g c = record {
  outcomes = c.in-Ok.outcomes.items;
  are = c.in-Ok.ensures.outcomes;
  lines = c.in-Ok-make_lines.ensures.lines
      ∙ ap (λ (os : List Outcome). job_lines c.args.batch.now.first os) c.deref.ensures.value;
}
