-- When the report of a job that was served from a table is right: of any table over which programs run.
use Rattle.std.specs.Prelude.{◌≡◌, ◌≢◌, ◌⊎◌, ℕ, ◌≤◌, List, [], ◌++◌, length, Option, Some, None}
use Rattle.std.specs.Prelude.{slice_get}
use Rattle.bpf_model.specs.declared.event.EventRefusal.TheVariants.{BadContext, NoProgram}
use Rattle.verifier.specs.Checked.{Checked}
use Rattle.worker_pool.specs.declared.job.Job.{Job}
use Rattle.worker_pool.specs.declared.job.JobReport.{JobReport}
use Rattle.worker_pool.specs.declared.job.Outcome.{Outcome}
use Rattle.worker_pool.specs.declared.job.Outcome.TheVariants.{Exit, Stopped}
use Rattle.worker_pool.specs.declared.job.StopCause.TheVariants.{Refused, SubWord}

-- Which moves are those of a run of the program on the context, by the seat of a name: after so many steps it exits with the
-- value, which comes last.
abbrev pub Runs : Type 0 → Type 0 → Type 1
Runs Name Move = Name → Checked → List ℕ → List Move → ℕ → ℕ → Type 0

-- What is so of a table's seats: what a seat did there, the newest first, and its name.
module _ {Seat Move Name : Type 0} (mine : Seat → List Move) (name : Seat → Name) where
  -- The second is the same seat, whose list has only grown.
  pub record HasGrown (first last : Seat) : Type 0 where
    pub same : name last ≡ name first
    pub moves : List Move
    pub list : mine last ≡ moves ++ mine first

  -- The moves of a run of the program on the context, which exits with the value within as many steps as the program has
  -- instructions, stand as one stretch in what the seat's list gained.
  pub record HasRunWithin (IsRun : Runs Name Move) (c : Checked) (context : List ℕ) (first last : Seat) (value : ℕ) : Type 0 where
    pub before : List Move
    pub moves : List Move
    pub after : List Move
    pub steps : ℕ
    pub stretch : mine last ≡ after ++ (moves ++ (before ++ mine first))
    pub exit : IsRun (name first) c context moves steps value
    pub bounded : steps ≤ length c.program

  -- What came of a job of this program, if there is one: without a program, with a context of another length and of a
  -- program that words don't serve, in this order, it was stopped; else it has exited with the value of a run of its own
  -- program and context.
  abbrev pub IsTableOutcome : Runs Name Move → (Checked → Type 0) → Seat → Seat → Job → Option Checked → Outcome → Type 0
  IsTableOutcome IsRun Refuses first last job None outcome = outcome ≡ Stopped None (Refused NoProgram)
  IsTableOutcome IsRun Refuses first last job (Some c) outcome =
      ((length job.ctx.items ≢ c.ctx_len) × (outcome ≡ Stopped None (Refused BadContext)))
      ⊎ ((length job.ctx.items ≡ c.ctx_len) × Refuses c × (outcome ≡ Stopped None SubWord))
      ⊎ ((length job.ctx.items ≡ c.ctx_len) × (Refuses c → ⊥)
      × (value : ℕ) × (outcome ≡ Exit value) × HasRunWithin IsRun c job.ctx.items first last value)

  abbrev pub IsTableJob : Runs Name Move → (Checked → Type 0) → List Checked → Seat → Seat → Job → JobReport (Unit {0}) → Type 0
  IsTableJob IsRun Refuses programs first last job report =
      IsTableOutcome IsRun Refuses first last job (slice_get programs job.prog) report.outcome

  -- Which moves a job of these programs gives: where it exits with the value, those of one run of its own program and context,
  -- by the seat of this name; where it was stopped, none.
  abbrev pub AreJobsMoves : Runs Name Move → List Checked → Name → Job → Outcome → List Move → Type 0
  AreJobsMoves IsRun programs seat job (Exit value) moves =
      (c : Checked) × (slice_get programs job.prog ≡ Some c) × (steps : ℕ)
      × IsRun seat c job.ctx.items moves steps value
  AreJobsMoves IsRun programs seat job (Stopped run cause) moves = moves ≡ []

  -- It is the same seat, and its list gained the moves that the job gives, and no others.
  pub record GainsJob (IsRun : Runs Name Move) (programs : List Checked) (first last : Seat) (job : Job)
      (report : JobReport (Unit {0})) : Type 0 where
    pub same : name last ≡ name first
    pub moves : List Move
    pub list : mine last ≡ moves ++ mine first
    pub of_job : AreJobsMoves IsRun programs (name first) job report.outcome moves
