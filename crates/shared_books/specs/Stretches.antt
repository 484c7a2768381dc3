-- Many steps of one run under one lock.
use Rattle.std.specs.Prelude.{◌≡◌, ℕ, ◌+◌, ◌<◌, ◌≤◌, Result, Ok, Err}
use Rattle.bpf_model.specs.declared.event.Event.TheVariants.{Step}
use Rattle.bpf_model.specs.declared.event.Answer.TheVariants.{Moved}
use Rattle.world.specs.declared.stretch.Stop.{Stop}
use Rattle.world.specs.declared.stretch.Stop.TheVariants.{Enough}
use Rattle.shared_books.specs.Books.{BooksView, WorkerView, Enters}
use Rattle.shared_books.specs.Receipts.{IsMachineAnswer}
use Rattle.shared_books.specs.declared.fault.SharedFault.{SharedFault}
use Rattle.shared_books.specs.declared.fault.SharedFault.TheVariants.{Memory}

-- So many entries of the worker, each a step of the run that is answered with a move, lead from the
-- first books to these.
pub data EntersMoves (worker run : ℕ) (first : BooksView) : ℕ → BooksView → Type 0 where
  not_yet : EntersMoves worker run first 0 first
  once_more : (count : ℕ) (mid new : BooksView) → EntersMoves worker run first count mid →
      Enters mid worker (Step run) Moved new → EntersMoves worker run first (count + 1) new

-- The worker has made so many entries more.
pub record HasMade (old : WorkerView) (count : ℕ) (new : WorkerView) : Type 0 where
  pub number : new.number ≡ old.number
  pub made : new.made ≡ old.made + count
  pub parts : new.parts ≡ old.parts

-- The run was stepped so many times, at most as often as asked, and each step was answered with a move. The worker has made as many
-- entries more. Where the end is that it was enough, it is as often as asked; where memory ran out, never.
pub record HasWalked (old : WorkerView) (run most moved : ℕ) (end : Result Stop SharedFault)
    (new : WorkerView) : Type 0 where
  pub made : HasMade old moved new
  pub answered : 0 < moved → IsMachineAnswer (Step run) Moved
  pub at_most : moved ≤ most
  pub exhausted : end ≡ Ok Enough → moved ≡ most
  pub memory : end ≡ Err Memory → moved ≡ 0
