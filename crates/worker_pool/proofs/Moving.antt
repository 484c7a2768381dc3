-- Steps of a run that are moves, one after another: there are only so many.
use Rattle.bpf_model.proofs.Prelude.{◌≡◌, ◌+◌, ◌∙◌, ℕ, ap, arith, Result, Ok, Err, OnOk, OnErr}
use Rattle.bpf_model.specs.declared.event.Answer.{Answer}
use Rattle.bpf_model.specs.declared.event.Answer.TheVariants as answers
use Rattle.shared_books.specs.Books.{WorkerView}
use Rattle.shared_books.specs.declared.fault.SharedFault.{SharedFault}
use Rattle.worker_pool.specs.Trails.{entries_of}

-- one where the reply is a move
abbrev pub moves : Result Answer SharedFault → ℕ
moves (Ok answers.Moved) = 1
moves reply = 0

-- a call that is answered makes one entry, and another none
pub is_next : (old new : WorkerView) (made : ℕ) (reply : Result Answer SharedFault) → made ≡ new.made → OnOk reply (new.made ≡ old.made + 1)
    → OnErr reply (new ≡ old) → made ≡ old.made + entries_of reply
is_next old new made (Ok answer) e ok err = e ∙ ok
is_next old new made (Err fault) e ok err =
    let same = ap (λ (w : WorkerView). w.made) err in
    omega (arith, e, same)
