use Rattle.bpf_model.proofs.Prelude.{◌∙◌, ap, List}
use Rattle.std.proofs.Common.{sum_by}
use Rattle.shared_books.specs.Books.{WorkerView}
use Rattle.shared.proofs.lock.Shared.finish.Goals as goal

pub returns-clause-total : goal.returns-clause-total
returns-clause-total g c =
    c.finish.ensures.total ∙
    (c.merged-all.ensures.amount ∙ ap (λ (ws : List WorkerView). sum_by (λ (w : WorkerView). w.made) ws)
    c.workers.view_is)
