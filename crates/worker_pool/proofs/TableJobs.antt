-- What a job gives that was not begun.
use Rattle.bpf_model.proofs.Prelude.{◌≡◌, List, [], refl, sym, ap, subst, None}
use Rattle.verifier.proofs.Prelude.{Checked}
use Rattle.worker_pool.specs.declared.job.Job.{Job}
use Rattle.worker_pool.specs.declared.job.JobReport.{JobReport}
use Rattle.worker_pool.specs.declared.job.Outcome.{Outcome}
use Rattle.worker_pool.specs.declared.job.Outcome.TheVariants.{Stopped}
use Rattle.worker_pool.specs.declared.job.StopCause.{StopCause}
use Rattle.worker_pool.specs.TableJobs.{AreJobsMoves, GainsJob, Runs}

-- a job that was not begun gives no moves
pub gains_nothing : {Seat Move Name : Type 0} (mine : Seat → List Move) (name : Seat → Name) (IsRun : Runs Name Move)
    (programs : List Checked) (first last : Seat) (job : Job) (report : JobReport (Unit {0})) (cause : StopCause) → last ≡ first →
    report.outcome ≡ Stopped None cause → GainsJob mine name IsRun programs first last job report
gains_nothing mine name IsRun programs first last job report cause same stopped = record {
  same = ap name same;
  moves = [];
  list = ap mine same;
  of_job = subst (λ (o : Outcome). AreJobsMoves mine name IsRun programs (name first) job o []) (sym stopped) refl;
}
