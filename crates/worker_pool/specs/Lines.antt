-- What is written of jobs.
use Rattle.std.specs.Prelude.{ℕ, ◌+◌, List, [], ◌∷◌, ◌++◌, codes}
use Rattle.std.specs.Fmt.{decimal}
use Rattle.worker_pool.specs.declared.job.Outcome.{Outcome}
use Rattle.worker_pool.specs.declared.job.Outcome.TheVariants.{Exit, Stopped}
use Rattle.worker_pool.specs.Numbers.{stop_cause_number}

-- what is written of one job
abbrev pub job_line : ℕ → Outcome → List ℕ
job_line number (Exit value) =
    codes "job " ++ (decimal number ++ (codes " exit " ++ (decimal value ++ codes "\n")))
job_line number (Stopped run cause) =
    codes "job " ++ (decimal number
    ++ (codes " stopped " ++ (decimal (stop_cause_number cause) ++ codes "\n")))

-- the lines of jobs, numbered from this number on
abbrev pub job_lines : ℕ → List Outcome → List ℕ
job_lines number [] = []
job_lines number (outcome ∷ outcomes) = job_line number outcome ++ job_lines (number + 1) outcomes
