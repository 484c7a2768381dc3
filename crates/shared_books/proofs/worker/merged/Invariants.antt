use Rattle.bpf_model.proofs.Prelude.{◌≡◌, ◌+◌, vec_len}
use Rattle.std.proofs.Common.{sum_by}
use Rattle.shared_books.specs.Books.{WorkerView}
use Rattle.shared_books.proofs.worker.merged.Given as goal

abbrev pub invariant-loop-worker : goal.invariant-loop-worker
invariant-loop-worker g l = (l.all.parts + vec_len l.workers ≡ vec_len l.fn.workers) ×
    (l.all.amount + sum_by (λ (w : WorkerView). w.made) l.workers.items ≡ sum_by (λ (w : WorkerView). w.made)
    l.fn.workers.items)

abbrev pub decreases-loop-worker : goal.decreases-loop-worker
decreases-loop-worker g l = goal.left-loop-worker g l
