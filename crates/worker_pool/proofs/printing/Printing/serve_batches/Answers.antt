use Rattle.bpf_model.proofs.Prelude.{sym, IfOk-weaker}
use Rattle.std.proofs.lemmas.List.Elements.{length_all_zip}
use Rattle.worker_pool.specs.Trails.{IsLater}
use Rattle.worker_pool.proofs.printing.Printing.serve_batches.Goals as goal

pub returns-clause-workers : goal.returns-clause-workers
returns-clause-workers g c = rw (← c.workers.view_is) (sym (length_all_zip IsLater _ _ c.serve_all.ensures.later))

pub returns-clause-right : goal.returns-clause-right
returns-clause-right g c = IfOk-weaker c.serve_all.result _ _ (λ v served k batch text e f. (served k batch text e f).right) c.serve_all.ensures.each
