-- When a job's trail fits its outcome.
use Rattle.std.specs.Prelude.{◌≡◌, ◌⊎◌, ◌≤◌, ◌+◌, ℕ, List, Option, Some, None, Result, Ok, Err}
use Rattle.std.specs.Prelude.{slice_get}
use Rattle.bpf_model.specs.declared.event.Event.TheVariants as events
use Rattle.bpf_model.specs.declared.event.Answer.{Answer}
use Rattle.bpf_model.specs.declared.event.Answer.TheVariants as answers
use Rattle.shared_books.specs.declared.fault.SharedFault.{SharedFault}
use Rattle.shared_books.specs.Books.{WorkerView}
use Rattle.verifier.specs.Checked.{Checked}
use Rattle.shared_books.specs.Receipts.{ReceiptView, NoteView, HasExitedOnce, IsPossibleExit, IsOwnExit}
use Rattle.shared.specs.Stretches.{StretchView}
use Rattle.worker_pool.specs.declared.job.Job.{Job}
use Rattle.worker_pool.specs.declared.job.StopCause.{StopCause}
use Rattle.worker_pool.specs.declared.job.StopCause.TheVariants.{Refused, Fault, OtherRun}
use Rattle.worker_pool.specs.declared.job.Outcome.{Outcome}
use Rattle.worker_pool.specs.declared.job.Outcome.TheVariants.{Exit, Stopped}
use Rattle.worker_pool.specs.declared.job.Trail.{Trail}
use Rattle.worker_pool.specs.declared.job.Trail.TheVariants as trails
use Rattle.worker_pool.specs.declared.job.JobReport.{JobReport}

-- why a reply is no answer to a job's event, where it isn't one
abbrev pub stop_of : Result Answer SharedFault → Option StopCause
stop_of (Err fault) = Some (Fault fault)
stop_of (Ok (answers.Refused refusal)) = Some (Refused refusal)
stop_of (Ok answer) = None

-- The second is the same worker, who may have made further entries.
pub record IsLater (first last : WorkerView) : Type 0 where
  pub number : last.number ≡ first.number
  pub made : first.made ≤ last.made

-- A receipt of this worker, from between its count of entries before and after.
pub record IsByWorker (first last : WorkerView) (receipt : ReceiptView) : Type 0 where
  pub worker : receipt.worker ≡ first.number
  pub since : first.made ≤ receipt.made
  pub until : receipt.made ≤ last.made

-- A stretch of this worker, from between its count of entries before and after.
pub record IsStretchBy (first last : WorkerView) (moves : StretchView) : Type 0 where
  pub worker : moves.worker ≡ first.number
  pub since : first.made ≤ moves.since
  pub until : moves.since + moves.moved ≤ last.made

-- all receipts of a trail and its moves are of one worker (a note says itself of which it is)
abbrev pub IsOfWorker : {L : Type 0} → WorkerView → WorkerView → Trail L → Type 0
IsOfWorker first last (trails.Unstarted start) = IsByWorker first last start
IsOfWorker first last (trails.Halted start moves step) =
    IsByWorker first last start × IsStretchBy first last moves × IsByWorker first last step
IsOfWorker first last (trails.OtherRun start moves step note) =
    IsByWorker first last start × IsStretchBy first last moves × IsByWorker first last step
IsOfWorker first last (trails.Ended start moves step note dropped) =
    IsByWorker first last start × IsStretchBy first last moves × IsByWorker first last step
    × IsByWorker first last dropped

-- how many entries a call makes that has this reply
abbrev pub entries_of : Result Answer SharedFault → ℕ
entries_of (Ok answer) = 1
entries_of (Err fault) = 0

-- The receipt's call came next, after so many entries of its worker.
abbrev pub IsNext : ℕ → ReceiptView → Type 0
IsNext made receipt = receipt.made ≡ made + entries_of receipt.reply

-- The moves come next, after so many entries of their worker, and the receipt's call right behind them.
pub record AreNext (made : ℕ) (moves : StretchView) (step : ReceiptView) : Type 0 where
  pub since : moves.since ≡ made
  pub behind : IsNext (moves.since + moves.moved) step

-- What the worker entered from `first` to `last` is the trail, and nothing else. Its start, its moves, its last step and its
-- drop stand right behind one another, as far as there are such. A call that is not answered makes no entry.
abbrev pub HasOnly : {L : Type 0} → WorkerView → WorkerView → Trail L → Type 0
HasOnly first last (trails.Unstarted start) = IsNext first.made start × (last.made ≡ start.made)
HasOnly first last (trails.Halted start moves step) =
    IsNext first.made start × AreNext start.made moves step × (last.made ≡ step.made)
HasOnly first last (trails.OtherRun start moves step note) =
    IsNext first.made start × AreNext start.made moves step × (last.made ≡ step.made)
HasOnly first last (trails.Ended start moves step note dropped) =
    IsNext first.made start × AreNext start.made moves step × IsNext step.made dropped
    × (last.made ≡ dropped.made)

-- The reply is no answer to the job's event, and the outcome tells why, with the run, if there is
-- one.
pub record StopsBy (reply : Result Answer SharedFault) (run : Option ℕ) (outcome : Outcome)
    : Type 0 where
  pub cause : StopCause
  pub why : stop_of reply ≡ Some cause
  pub told : outcome ≡ Stopped run cause

-- The start of the job's program on its context was answered with no run: the outcome tells why.
pub record StopsAtStart (job : Job) (start : ReceiptView) (outcome : Outcome) : Type 0 where
  pub event : start.event ≡ events.Start job.prog job.ctx
  pub stops : StopsBy start.reply None outcome

-- The start of the job's program on its context was answered with this run.
pub record WasStarted (job : Job) (run : ℕ) (start : ReceiptView) : Type 0 where
  pub event : start.event ≡ events.Start job.prog job.ctx
  pub reply : start.reply ≡ Ok (answers.Started run)

-- A step of the run was refused, or not applied: the outcome tells why.
pub record StopsAtStep (run : ℕ) (step : ReceiptView) (outcome : Outcome) : Type 0 where
  pub event : step.event ≡ events.Step run
  pub stops : StopsBy step.reply (Some run) outcome

-- the reply is an exit, with some value
pub record HasExitReply (reply : Result Answer SharedFault) : Type 0 where
  pub value : ℕ
  pub is : reply ≡ Ok (answers.Exited value)

-- A step of the run was its exit.
pub record ExitsAtStep (run : ℕ) (step : ReceiptView) : Type 0 where
  pub event : step.event ≡ events.Step run
  pub exits : HasExitReply step.reply

-- Right after that step the same worker asked for the exit value of this run, for the job's program
-- and context.
pub record AsksForExit (job : Job) (run : ℕ) (step : ReceiptView) (note : NoteView) : Type 0 where
  pub worker : note.worker ≡ step.worker
  pub count : note.made ≡ step.made
  pub run_is : note.run ≡ run
  pub prog : note.prog ≡ job.prog
  pub context : note.context ≡ job.ctx.items

-- The note has no exit value, and the outcome says so.
pub record IsOtherRun (run : ℕ) (note : NoteView) (outcome : Outcome) : Type 0 where
  pub none : note.exit ≡ None
  pub told : outcome ≡ Stopped (Some run) OtherRun

-- The outcome is the exit value, once the run was dropped; else it tells why the run wasn't.
abbrev pub TellsExit : ℕ → ℕ → Result Answer SharedFault → Outcome → Type 0
TellsExit run value reply outcome =
    ((reply ≡ Ok answers.Done) × (outcome ≡ Exit value))
    ⊎ StopsBy reply (Some run) outcome

-- The note has the exit value of a run of the job's program and context: one of the program's
-- definition, and without map references the only one. The run was dropped, and the outcome tells
-- the value, or why it wasn't dropped.
pub record ExitsWithValue (programs : List Checked) (job : Job) (run : ℕ) (note : NoteView)
    (dropped : ReceiptView) (outcome : Outcome) : Type 0 where
  pub value : ℕ
  pub noted : note.exit ≡ Some value
  pub exited : HasExitedOnce programs run job.prog job.ctx.items value
  pub may : IsPossibleExit (slice_get programs job.prog) job.ctx.items value
  pub alone : IsOwnExit (slice_get programs job.prog) job.ctx.items value
  pub event : dropped.event ≡ events.Drop run
  pub told : TellsExit run value dropped.reply outcome

-- The trail begins with the start of the job's program on its context, goes on with the run that
-- this gave, and bears out the outcome. Its moves are of that run.
abbrev pub FitsJob : {L : Type 0} → List Checked → Job → Outcome → Trail L → Type 0
FitsJob programs job outcome (trails.Unstarted start) = StopsAtStart job start outcome
FitsJob programs job outcome (trails.Halted start moves step) =
    (run : ℕ) × WasStarted job run start × (moves.run ≡ run) × StopsAtStep run step outcome
FitsJob programs job outcome (trails.OtherRun start moves step note) =
    (run : ℕ) × WasStarted job run start × (moves.run ≡ run) × ExitsAtStep run step
    × AsksForExit job run step note × IsOtherRun run note outcome
FitsJob programs job outcome (trails.Ended start moves step note dropped) =
    (run : ℕ) × WasStarted job run start × (moves.run ≡ run) × ExitsAtStep run step
    × AsksForExit job run step note × ExitsWithValue programs job run note dropped outcome

-- The report is right for the job, by receipts of one worker between its count of entries before
-- and after.
pub record IsServedJob {L : Type 0} (programs : List Checked) (first last : WorkerView) (job : Job)
    (report : JobReport (Trail L)) : Type 0 where
  pub by : IsOfWorker first last report.trail
  pub fits : FitsJob programs job report.outcome report.trail

-- The worker served the job once from `first` to `last`: all that it entered is the job's trail.
pub record IsServedOnce {L : Type 0} (programs : List Checked) (first last : WorkerView) (job : Job)
    (report : JobReport (Trail L)) : Type 0 where
  pub served : IsServedJob programs first last job report
  pub only : HasOnly first last report.trail
