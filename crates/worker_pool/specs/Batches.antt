-- Many jobs of one program, some of them at a time.
use Rattle.std.specs.Prelude.{◌≡◌, ℕ, ◌+◌, List, [], ◌∷◌, length, Option}
use Rattle.bpf_model.specs.declared.insn.Insn.{Insn}
use Rattle.bpf_model.specs.declared.limits.MapShape.{MapShape}
use Rattle.bpf_model.specs.View.{AreNewMaps, shapes_of_maps}
use Rattle.shared.specs.declared.bound.ProgramWithMaps.{ProgramWithMaps}
use Rattle.verifier.specs.Checked.{Checked}
use Rattle.worker_pool.specs.declared.batch.Batch.{Batch}
use Rattle.worker_pool.specs.declared.job.Job.{Job}
use Rattle.worker_pool.specs.declared.job.Outcome.{Outcome}
use Rattle.worker_pool.specs.Lines.{job_lines}
use Rattle.worker_pool.specs.Outcomes.{AreOutcomesOn, AreRunsOf, IsOnly}
use Rattle.worker_pool.specs.Runs.{WritesJobs, WritesPart}
use Rattle.worker_pool.specs.declared.fault.RunFault.{RunFault}

-- the jobs from one number up to another, one batch behind another
abbrev pub AreBatches : ℕ → List Batch → ℕ → Type 0
AreBatches first [] end = first ≡ end
AreBatches first (batch ∷ batches) end =
    (batch.first ≡ first) × AreBatches (first + batch.count) batches end

-- The outcomes are those of so many runs of a program, numbered from `first` on, where the jobs are
-- of it.
abbrev pub AreOutcomes : List Checked → List Job → ℕ → ℕ → List Outcome → Type 0
AreOutcomes programs jobs first count outcomes =
    (length outcomes ≡ count)
    × ((program : List Insn) (shapes : List MapShape) (contexts : List (List ℕ)) →
    AreRunsOf program shapes contexts programs jobs →
    AreOutcomesOn program shapes contexts first outcomes)

-- A world of these programs has this one alone; and its maps are new ones, of the shapes that it was verified with.
abbrev pub IsAlike : List Checked → ProgramWithMaps → Type 0
IsAlike programs program =
    IsOnly program.verified.program program.verified.shapes programs
    × AreNewMaps program.registry.maps
    × (program.verified.shapes ≡ shapes_of_maps program.registry.maps)

-- The text is the lines of the outcomes of a batch.
pub record IsPrinted (programs : List Checked) (jobs : List Job) (batch : Batch) (text : List ℕ)
    : Type 0 where
  pub outcomes : List Outcome
  pub are : AreOutcomes programs jobs batch.first batch.count outcomes
  pub lines : text ≡ job_lines batch.first outcomes

-- The output has gained the lines of so many runs of a program, where the jobs are of it.
abbrev pub HasWritten : List Checked → List Job → ℕ → Option (List ℕ) → Option (List ℕ) → Type 0
HasWritten programs jobs count old new =
    (program : List Insn) (shapes : List MapShape) (contexts : List (List ℕ)) →
    AreRunsOf program shapes contexts programs jobs →
    WritesJobs program shapes contexts count old new

-- Where the pool fails, it has gained the lines of some first ones of so many.
abbrev pub HasWrittenPart : List Checked → List Job → ℕ → Option (List ℕ) → Option (List ℕ) →
    RunFault → Type 0
HasWrittenPart programs jobs count old new fault =
    (program : List Insn) (shapes : List MapShape) (contexts : List (List ℕ)) →
    AreRunsOf program shapes contexts programs jobs →
    WritesPart program shapes contexts count old new fault
