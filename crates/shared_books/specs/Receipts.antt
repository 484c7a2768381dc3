-- What a receipt and a note say.
use Rattle.std.specs.Prelude.{ℕ, List, Option, Some, None, Result, Ok, Err, slice_get}
use Rattle.bpf_model.specs.declared.event.Event.{Event}
use Rattle.bpf_model.specs.declared.event.Answer.{Answer}
use Rattle.bpf_model.specs.Event.{DoesEvent}
use Rattle.bpf_model.specs.Exit.{HasNoMaps}
use Rattle.bpf_model.specs.Machine.{Machine}
use Rattle.bpf_model.specs.Refines.{Tracks}
use Rattle.bpf_model.specs.View.{WorldView}
use Rattle.verifier.specs.Checked.{Checked}
use Rattle.world_laws.specs.Exited.{HasExited}
use Rattle.world_laws.specs.Invariant.{IsWorld}
use Rattle.world_laws.specs.Exits.{MayExitAs, ExitsAs}
use Rattle.shared_books.specs.declared.fault.SharedFault.{SharedFault}

-- who called, how many entries it has made, the event, and the answer
pub record ReceiptView : Type 0 where
  pub worker : ℕ
  pub made : ℕ
  pub event : Event
  pub reply : Result Answer SharedFault

-- the reply that tells how a call ended, with this answer
abbrev pub reply_of : Result (Unit {0}) SharedFault → Answer → Result Answer SharedFault
reply_of (Ok done) answer = Ok answer
reply_of (Err fault) answer = Err fault

-- who asked, how many entries it has made, for which run, program and context, and the exit value
pub record NoteView : Type 0 where
  pub worker : ℕ
  pub made : ℕ
  pub run : ℕ
  pub prog : ℕ
  pub context : List ℕ
  pub exit : Option ℕ

-- In a state that some world tracks, the abstract machine has a step for the event with this
-- answer.
pub record IsMachineAnswer (event : Event) (answer : Answer) : Type 0 where
  pub world : WorldView
  pub is_world : IsWorld world
  pub old : Machine
  pub tracked : Tracks world old
  pub new : Machine
  pub step : DoesEvent old event answer new

-- In the world the run has exited with this value, of the program that was asked for on the
-- context.
abbrev pub IsExitOf : WorldView → ℕ → Option Checked → List ℕ → ℕ → Type 0
IsExitOf w run None context n = ⊥
IsExitOf w run (Some program) context n =
    HasExited w run program.program program.shapes program.ctx_len context n

-- In some world, with the programs that are asked for by number, the run has exited with this
-- value.
pub record HasExitedOnce (programs : List Checked) (run prog : ℕ) (context : List ℕ) (n : ℕ)
    : Type 0 where
  pub world : WorldView
  pub is_world : IsWorld world
  pub exited : IsExitOf world run (slice_get programs prog) context n

-- The program that was asked for may exit with this value on the context, over maps of its shapes.
abbrev pub IsPossibleExit : Option Checked → List ℕ → ℕ → Type 0
IsPossibleExit None context n = ⊥
IsPossibleExit (Some program) context n =
    MayExitAs program.program program.shapes context n

-- Without map references the program that was asked for exits on the context with this value,
-- whatever other actors do.
abbrev pub IsOwnExit : Option Checked → List ℕ → ℕ → Type 0
IsOwnExit None context n = ⊥
IsOwnExit (Some program) context n =
    HasNoMaps program.program → ExitsAs program.program context n
