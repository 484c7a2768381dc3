-- What a call does to the books and to the worker who calls, and what it hands out.
use Rattle.std.specs.Prelude.{◌≡◌, ◌+◌, ◌↔◌, ℕ, List, Option, Result, Err, IfOk, IfSome, IfNone, OnErr}
use Rattle.std.specs.Prelude.{OnOk, slice_get}
use Rattle.bpf_model.specs.declared.event.Event.{Event}
use Rattle.bpf_model.specs.declared.event.Answer.{Answer}
use Rattle.bpf_model.specs.View.{WorldView}
use Rattle.verifier.specs.Checked.{Checked}
use Rattle.world_laws.specs.Invariant.{IsWorld}
use Rattle.shared_books.specs.Books.{BooksView, WorkerView, Enters, IsJournalFull}
use Rattle.shared_books.specs.Receipts.{NoteView, ReceiptView, IsExitOf, IsMachineAnswer, reply_of}
use Rattle.shared_books.specs.Receipts.{HasExitedOnce, IsPossibleExit, IsOwnExit}
use Rattle.shared_books.specs.declared.fault.SharedFault.{SharedFault}
use Rattle.shared_books.specs.declared.fault.SharedFault.TheVariants.{JournalFull}

-- The receipt says who asked for which event, and how many entries it has made then. The answer is the machine's, with one
-- entry more, or the caller is as before.
pub record IsNoted (caller : WorkerView) (event : Event) (receipt : ReceiptView) (later : WorkerView) : Type 0 where
  pub worker : receipt.worker ≡ caller.number
  pub asked : receipt.event ≡ event
  pub count : receipt.made ≡ later.made
  pub answered : IfOk receipt.reply (IsMachineAnswer event)
  pub made : OnOk receipt.reply (later.made ≡ caller.made + 1)
  pub same_number : later.number ≡ caller.number
  pub same_parts : later.parts ≡ caller.parts
  pub err : OnErr receipt.reply (later ≡ caller)

-- So it is, and the event is entered, or nothing has changed, as always where the journal is full.
pub record IsEntered (old : BooksView) (caller : WorkerView) (event : Event) (receipt : ReceiptView)
    (new : BooksView) (later : WorkerView) : Type 0 where
  pub noted : IsNoted caller event receipt later
  pub entered : IfOk receipt.reply (λ answer. Enters old caller.number event answer new)
  pub full : (receipt.reply ≡ Err JournalFull) ↔ IsJournalFull old
  pub kept : OnErr receipt.reply (new ≡ old)

-- what a receipt of a call for the event by this worker would say, as it is after the call
abbrev pub receipt_of : WorkerView → Event → Result (Unit {0}) SharedFault → Answer → ReceiptView
receipt_of later event outcome answer = record {
  worker = later.number;
  made = later.made;
  event = event;
  reply = reply_of outcome answer;
}

-- The note says who asked for which run, program and context, and how many entries it has made. It
-- has the exit value of that run, of this program on this context, and none where there is none.
pub record IsExitNote (w : WorldView) (caller : WorkerView) (run prog : ℕ)
    (program : Option Checked) (context : List ℕ) (note : NoteView) : Type 0 where
  pub worker : note.worker ≡ caller.number
  pub count : note.made ≡ caller.made
  pub run_is : note.run ≡ run
  pub prog_is : note.prog ≡ prog
  pub context_is : note.context ≡ context
  pub some : IfSome note.exit (λ n. IsExitOf w run program context n)
  pub world : IsWorld w
  pub none : IfNone note.exit ((n : ℕ) → IsExitOf w run program context n → ⊥)

-- The note says who asked for which run, program and context, and how many entries it has made. A value is that of a run which
-- has ended in some world, of the program of that number among these; it is one of the program's definition, and without map
-- references the only one.
pub record TellsExit (programs : List Checked) (caller : WorkerView) (run prog : ℕ) (context : List ℕ)
    (note : NoteView) : Type 0 where
  pub worker : note.worker ≡ caller.number
  pub count : note.made ≡ caller.made
  pub run_is : note.run ≡ run
  pub prog_is : note.prog ≡ prog
  pub context_is : note.context ≡ context
  pub exit : IfSome note.exit (λ n. HasExitedOnce programs run prog context n)
  pub may : IfSome note.exit (λ n. IsPossibleExit (slice_get programs prog) context n)
  pub alone : IfSome note.exit (λ n. IsOwnExit (slice_get programs prog) context n)
