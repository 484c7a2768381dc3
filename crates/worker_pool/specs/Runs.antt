-- What the runs of a program write, and why they end early.
use Rattle.std.specs.Prelude.{◌≡◌, ◌≤◌, ℕ, List, length, Option, ⊤}
use Rattle.std.specs.Io.KnownBytes.{Appends}
use Rattle.bpf_model.specs.declared.insn.Insn.{Insn}
use Rattle.bpf_model.specs.declared.limits.MapShape.{MapShape}
use Rattle.job_queue.specs.declared.fault.PoolFault.TheVariants.{BadWorkers, TooManyJobs, Memory}
use Rattle.job_queue.specs.declared.fault.PoolFault.TheVariants.{Lost}
use Rattle.worker_pool.specs.declared.fault.RunFault.{RunFault}
use Rattle.worker_pool.specs.declared.fault.RunFault.TheVariants.{Pool, Write}
use Rattle.worker_pool.specs.declared.job.Outcome.{Outcome}
use Rattle.worker_pool.specs.Lines.{job_lines}
use Rattle.worker_pool.specs.Outcomes.{AreOutcomesOn, IsFaultOf}

-- The output gains the lines of so many jobs, numbered from 0 on. Those that have exited have exited
-- as the program may on their contexts, over maps of these shapes; of the others nothing is known.
pub record WritesJobs (program : List Insn) (shapes : List MapShape) (contexts : List (List ℕ))
    (count : ℕ) (old new : Option (List ℕ)) : Type 0 where
  pub outcomes : List Outcome
  pub number : length outcomes ≡ count
  pub each : AreOutcomesOn program shapes contexts 0 outcomes
  pub written : Appends old new (job_lines 0 outcomes)

-- Where the pool fails, the output has gained the lines of some first jobs. Where the output fails,
-- nothing is said.
abbrev pub WritesPart : List Insn → List MapShape → List (List ℕ) → ℕ → Option (List ℕ) →
    Option (List ℕ) → RunFault → Type 0
WritesPart program shapes contexts count old new (Pool fault) =
    (some : ℕ) × (some ≤ count) × WritesJobs program shapes contexts some old new
WritesPart program shapes contexts count old new (Write error) = ⊤

-- the fault comes of no number that is refused
abbrev pub IsLate : RunFault → Type 0
IsLate (Pool BadWorkers) = ⊥
IsLate (Pool TooManyJobs) = ⊥
IsLate (Pool Memory) = ⊤
IsLate (Pool Lost) = ⊥
IsLate (Write error) = ⊤

-- the fault is one of a pool of so many workers and jobs, or of the output
abbrev pub IsRunFaultOf : ℕ → ℕ → RunFault → Type 0
IsRunFaultOf workers count (Pool fault) = IsFaultOf workers count fault
IsRunFaultOf workers count (Write error) = ⊤
