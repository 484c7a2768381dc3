-- The jobs that a pool is given, and what their outcomes say of the program.
use Rattle.std.specs.Prelude.{◌≡◌, ◌≢◌, ◌⊎◌, ◌<◌, ◌+◌, ◌%◌, ℕ, List, [], ◌∷◌, length, map, All, ⊤}
use Rattle.std.specs.Prelude.{slice_get, IfSome}
use Rattle.arrayvec.specs.ArrayVec.{ArrayVec}
use Rattle.bpf_model.specs.declared.insn.Insn.{Insn}
use Rattle.bpf_model.specs.declared.limits.MapShape.{MapShape}
use Rattle.bpf_model.specs.Exit.{HasNoMaps}
use Rattle.world_laws.specs.Exits.{MayExitAs, ExitsAs}
use Rattle.job_queue.specs.declared.fault.PoolFault.{PoolFault}
use Rattle.job_queue.specs.declared.fault.PoolFault.TheVariants.{BadWorkers, TooManyJobs, Memory}
use Rattle.job_queue.specs.declared.fault.PoolFault.TheVariants.{Lost}
use Rattle.job_queue.specs.Serving.{most_jobs}
use Rattle.shared_books.specs.Books.{most_workers}
use Rattle.verifier.specs.Checked.{Checked}
use Rattle.worker_pool.specs.declared.job.Job.{Job}
use Rattle.worker_pool.specs.declared.job.Outcome.{Outcome}
use Rattle.worker_pool.specs.declared.job.Outcome.TheVariants.{Exit, Stopped}
use Rattle.worker_pool.specs.declared.job.StopCause.{StopCause}
use Rattle.worker_pool.specs.declared.job.StopCause.TheVariants.{SubWord}

-- no number of threads for a shared world that has so many workers
abbrev pub AreBadWorkers : ℕ → ℕ → Type 0
AreBadWorkers threads workers = (threads ≡ 0) ⊎ (most_workers < threads) ⊎ (workers < threads)

-- The fault is one of so many workers and jobs, or of memory. No result is lost.
abbrev pub IsFaultOf : ℕ → ℕ → PoolFault → Type 0
IsFaultOf workers count BadWorkers = (workers ≡ 0) ⊎ (most_workers < workers)
IsFaultOf workers count TooManyJobs = most_jobs < count
IsFaultOf workers count Memory = ⊤
IsFaultOf workers count Lost = ⊥

-- the bytes of contexts
abbrev pub contexts_of : List (ArrayVec ℕ) → List (List ℕ)
contexts_of contexts = map (λ context. context.items) contexts

-- These are jobs of program 0 on these contexts, in their order.
pub record AreJobsOn (contexts : List (List ℕ)) (jobs : List Job) : Type 0 where
  pub progs : All (λ job. job.prog ≡ 0) jobs
  pub contexts_are : map (λ job. job.ctx.items) jobs ≡ contexts

-- There is this program alone, which was verified for maps of these shapes.
pub record IsOnly (program : List Insn) (shapes : List MapShape) (programs : List Checked)
    : Type 0 where
  pub code : map (λ p. p.program) programs ≡ program ∷ []
  pub maps : map (λ p. p.shapes) programs ≡ shapes ∷ []

-- There is this program alone, and the jobs are of it, on these contexts.
pub record AreRunsOf (program : List Insn) (shapes : List MapShape) (contexts : List (List ℕ))
    (programs : List Checked) (jobs : List Job) : Type 0 where
  pub only : IsOnly program shapes programs
  pub are : AreJobsOn contexts jobs

-- The program may exit with this value on the context, over maps of these shapes; without map
-- references it does, and with no other, whatever other runs do.
pub record IsExitOn (program : List Insn) (shapes : List MapShape) (context : List ℕ) (n : ℕ)
    : Type 0 where
  pub may : MayExitAs program shapes context n
  pub alone : HasNoMaps program → ExitsAs program context n

-- Why a pool may stop a job: never since words don't serve its program. No more is known of a stop.
abbrev pub IsPoolStop : StopCause → Type 0
IsPoolStop cause = cause ≢ SubWord

-- a job on the context that has exited has exited with such a value
abbrev pub IsOutcomeOn : List Insn → List MapShape → List ℕ → Outcome → Type 0
IsOutcomeOn program shapes context (Exit n) = IsExitOn program shapes context n
IsOutcomeOn program shapes context (Stopped run cause) = IsPoolStop cause

-- The outcomes are those of jobs that are numbered from this number on. Jobs take these contexts in
-- turn, job 0 the first, and the first again behind the last.
abbrev pub AreOutcomesOn : List Insn → List MapShape → List (List ℕ) → ℕ → List Outcome → Type 0
AreOutcomesOn program shapes contexts number [] = ⊤
AreOutcomesOn program shapes contexts number (outcome ∷ outcomes) =
    IfSome (slice_get contexts (number % length contexts))
    (λ context. IsOutcomeOn program shapes context outcome)
    × AreOutcomesOn program shapes contexts (number + 1) outcomes
