-- What was right of a job stays so, from an earlier beginning to a later end. These are lemmas: they stand
-- here since ghost members of an `impl` may name only what stands in `specs/`; no reader of a clause needs
-- them.
use Rattle.std.specs.Prelude.{List}
use Rattle.std.proofs.Common.{refl, ◌∙◌, le_trans}
use Rattle.std.proofs.Math.Nat.{le_refl}
use Rattle.shared_books.specs.Books.{WorkerView}
use Rattle.shared_books.specs.Receipts.{ReceiptView}
use Rattle.shared.specs.Stretches.{StretchView}
use Rattle.verifier.specs.Checked.{Checked}
use Rattle.worker_pool.specs.declared.job.Job.{Job}
use Rattle.worker_pool.specs.declared.job.Trail.{Trail}
use Rattle.worker_pool.specs.declared.job.Trail.TheVariants as trails
use Rattle.worker_pool.specs.declared.job.JobReport.{JobReport}
use Rattle.worker_pool.specs.Trails.{IsLater, IsByWorker, IsStretchBy, IsOfWorker, IsServedJob}

pub later_same : (w : WorkerView) → IsLater w w
later_same w = record { number = refl; made = le_refl w.made }

pub later_again : (u v w : WorkerView) → IsLater u v → IsLater v w → IsLater u w
later_again u v w a b = record { number = b.number ∙ a.number; made = le_trans a.made b.made }

by_wider : (t u v w : WorkerView) (r : ReceiptView) → IsLater t u → IsLater v w → IsByWorker u v r →
    IsByWorker t w r
by_wider t u v w r a b by =
    record {
      worker = by.worker ∙ a.number;
      since = le_trans a.made by.since;
      until = le_trans by.until b.made;
    }

stretch_wider : (t u v w : WorkerView) (m : StretchView) → IsLater t u → IsLater v w → IsStretchBy u v m →
    IsStretchBy t w m
stretch_wider t u v w m a b by =
    record {
      worker = by.worker ∙ a.number;
      since = le_trans a.made by.since;
      until = le_trans by.until b.made;
    }

of_wider : {L : Type 0} (t u v w : WorkerView) (trail : Trail L) → IsLater t u → IsLater v w →
    IsOfWorker u v trail → IsOfWorker t w trail
of_wider t u v w (trails.Unstarted start) a b by = by_wider t u v w start a b by
of_wider t u v w (trails.Halted start moves step) a b by = (
  by_wider t u v w start a b by.0,
  stretch_wider t u v w moves a b by.1,
  by_wider t u v w step a b by.2,
)
of_wider t u v w (trails.OtherRun start moves step note) a b by = (
  by_wider t u v w start a b by.0,
  stretch_wider t u v w moves a b by.1,
  by_wider t u v w step a b by.2,
)
of_wider t u v w (trails.Ended start moves step note dropped) a b by = (
  by_wider t u v w start a b by.0,
  stretch_wider t u v w moves a b by.1,
  by_wider t u v w step a b by.2,
  by_wider t u v w dropped a b by.3,
)

-- what is right stays so, from an earlier beginning to a later end
pub served_wider : {L : Type 0} (programs : List Checked) (t u v w : WorkerView) (job : Job)
    (report : JobReport (Trail L)) → IsLater t u → IsLater v w → IsServedJob programs u v job report →
    IsServedJob programs t w job report
served_wider programs t u v w job report a b s =
    record { by = of_wider t u v w report.trail a b s.by; fits = s.fits }
