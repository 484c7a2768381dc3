use Rattle.bpf_model.proofs.Prelude.{◌≡◌, ◌+◌, vec_len, All}
use Rattle.shared_books.specs.Books.{WorkerView, AreNumbered}
use Rattle.shared_books.proofs.worker.new_workers.Given as goal

abbrev pub invariant-loop-number : goal.invariant-loop-number
invariant-loop-number g l = (l.all.parts + l.number ≡ l.workers) × (l.all.amount ≡ 0) × (vec_len l.list ≡ l.number) ×
    All (λ (w : WorkerView). w.made ≡ 0) l.list.items × AreNumbered l.list.items
