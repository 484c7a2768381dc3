-- What is written once a batch of jobs more is served.
use Rattle.bpf_model.proofs.Prelude.{◌≡◌, ℕ, ◌+◌, ◌≤◌, ◌%◌, refl, List, ◌∷◌, [], ◌++◌, length, map, sym, ap, ◌∙◌, subst, arith, Option, Some, slice_get}
use Rattle.bpf_model.proofs.Prelude.{IfSome, Appends, Appends-trans, length-map, get_or_from_slice_get, slice_get_within, get-map}
use Rattle.verifier.proofs.Prelude.{Checked}
use Rattle.std.proofs.Common.{length-append}
use Rattle.std.specs.Io.KnownBytes.{Keeps}
use Rattle.std.proofs.KnownBytes.{Appends-kept}
use Rattle.bpf_model.specs.declared.insn.Insn.{Insn}
use Rattle.bpf_model.specs.declared.limits.MapShape.{MapShape}
use Rattle.shared_books.specs.Books.{WorkerView}
use Rattle.worker_pool.specs.declared.batch.Batch.{Batch}
use Rattle.worker_pool.specs.declared.job.Job.{Job}
use Rattle.worker_pool.specs.declared.job.JobReport.{JobReport}
use Rattle.worker_pool.specs.declared.job.Outcome.{Outcome}
use Rattle.worker_pool.specs.declared.job.Trail.{Trail}
use Rattle.worker_pool.specs.Batches.{AreBatches, AreOutcomes, HasWritten, IsPrinted}
use Rattle.worker_pool.specs.Lines.{job_lines}
use Rattle.worker_pool.specs.Outcomes.{AreJobsOn, AreOutcomesOn, IsOnly, IsOutcomeOn}
use Rattle.worker_pool.specs.declared.fault.RunFault.{RunFault}
use Rattle.worker_pool.specs.declared.fault.RunFault.TheVariants.{Pool, Write}
use Rattle.worker_pool.specs.Runs.{WritesPart}
use Rattle.worker_pool.specs.Trails.{IsServedJob}
use Rattle.worker_pool.proofs.JobLines.{job_lines-append}
use Rattle.worker_pool.proofs.Outcomes.{fits_outcome}

-- outcomes of jobs, and of those after them
pub outcomes_append : (program : List Insn) (shapes : List MapShape) (contexts : List (List ℕ)) (n m : ℕ) (xs ys : List Outcome) → m ≡ n + length xs →
    AreOutcomesOn program shapes contexts n xs → AreOutcomesOn program shapes contexts m ys → AreOutcomesOn program shapes contexts n (xs ++ ys)
outcomes_append program shapes contexts n m [] ys e front back =
    subst (λ (k : ℕ). AreOutcomesOn program shapes contexts k ys) (let same : m ≡ n = omega (arith, e) in same) back
outcomes_append program shapes contexts n m (x ∷ xs) ys e front back =
    (front.0, outcomes_append program shapes contexts (n + 1) m xs ys (omega (arith, e)) front.1 back)

-- the context of the job that is taken for a number
context_taken : (contexts : List (List ℕ)) (jobs : List Job) (number : ℕ) (job : Job) → AreJobsOn contexts jobs →
    slice_get jobs (number % length jobs) ≡ Some job → slice_get contexts (number % length contexts) ≡ Some job.ctx.items
context_taken contexts jobs number job are at =
    let context_of = λ (j : Job). j.ctx.items in
    let same : length jobs ≡ length contexts = sym (length-map jobs context_of) ∙ ap (λ (cs : List (List ℕ)). length cs) are.contexts_are in
    let taken : slice_get (map context_of jobs) (number % length jobs) ≡ Some job.ctx.items =
    get-map context_of jobs (number % length jobs) job at in
    let here : slice_get contexts (number % length jobs) ≡ Some job.ctx.items =
    subst (λ (cs : List (List ℕ)). slice_get cs (number % length jobs) ≡ Some job.ctx.items) are.contexts_are taken in
    subst (λ (n : ℕ). slice_get contexts (number % n) ≡ Some job.ctx.items) same here

-- the lines of a batch in another world of the same program are those of one in this world
pub printed_elsewhere : (own programs : List Checked) (code : List Insn) (shapes : List MapShape) (jobs : List Job) (batch : Batch) (text : List ℕ) →
    IsOnly code shapes own → IsOnly code shapes programs → IsPrinted own jobs batch text → IsPrinted programs jobs batch text
printed_elsewhere own programs code shapes jobs batch text own_only only printed = record {
  outcomes = printed.outcomes;
  are = (
    printed.are.0,
    λ program asked contexts runs.
        printed.are.1 program asked contexts record {
          only = record {
            code = own_only.code ∙ (sym only.code ∙ runs.only.code);
            maps = own_only.maps ∙ (sym only.maps ∙ runs.only.maps);
          };
          are = runs.are;
        },
  );
  lines = printed.lines;
}

-- one batch more
pub more_batches : (first mid : ℕ) (batches : List Batch) (batch : Batch) → AreBatches first batches mid → batch.first ≡ mid →
    AreBatches first (batches ++ batch ∷ []) (mid + batch.count)
more_batches first mid [] batch are at = (at ∙ sym are, ap (λ (n : ℕ). n + batch.count) are)
more_batches first mid (one ∷ batches) batch are at = (are.0, more_batches (first + one.count) mid batches batch are.1 at)

-- batches go up
pub batches_up : (first end : ℕ) (batches : List Batch) → AreBatches first batches end → first ≤ end
batches_up first end [] are = omega (arith, are)
batches_up first end (one ∷ batches) are = omega (arith, batches_up (first + one.count) end batches are.1)

module _ (programs : List Checked) (jobs : List Job) where
  pub no_outcomes : (first : ℕ) → AreOutcomes programs jobs first 0 []
  no_outcomes first = (refl, λ program shapes contexts runs. tt)

  -- one outcome more
  pub more_outcomes : {L : Type 0} (first k : ℕ) (outcomes : List Outcome) (job : Job) (u v : WorkerView) (report : JobReport (Trail L)) →
      AreOutcomes programs jobs first k outcomes → slice_get jobs ((first + k) % length jobs) ≡ Some job → IsServedJob programs u v job report →
      AreOutcomes programs jobs first (k + 1) (outcomes ++ report.outcome ∷ [])
  more_outcomes first k outcomes job u v report are taken served = (
    (let l : length (outcomes ++ report.outcome ∷ []) ≡ k + 1 = omega (arith, length-append outcomes (report.outcome ∷ []), are.0) in l),
    λ program shapes contexts runs.
        let at = (first + k) % length jobs in
        let prog : job.prog ≡ 0 =
        subst (λ (j : Job). j.prog ≡ 0) (get_or_from_slice_get jobs at job job taken) (runs.are.progs at job (slice_get_within jobs at job taken)) in
        let one : IsOutcomeOn program shapes job.ctx.items report.outcome =
        fits_outcome programs program shapes runs.only job report.outcome report.trail prog served.fits in
        let context = context_taken contexts jobs (first + k) job runs.are taken in
        let last : IfSome (slice_get contexts ((first + k) % length contexts)) (λ context. IsOutcomeOn program shapes context report.outcome) =
        subst (λ (o : Option (List ℕ)). IfSome o (λ context. IsOutcomeOn program shapes context report.outcome)) (sym context) one in
        outcomes_append program shapes contexts first (first + k) outcomes (report.outcome ∷ []) (omega (arith, are.0))
        (are.1 program shapes contexts runs) (last, tt),
  )

  -- the lines of one batch more
  pub more_written : (first : ℕ) (batch : Batch) (text : List ℕ) (old mid new : Option (List ℕ)) → batch.first ≡ first →
      IsPrinted programs jobs batch text → HasWritten programs jobs first old mid → Appends mid new text →
      HasWritten programs jobs (first + batch.count) old new
  more_written first batch text old mid new at printed written wrote = λ program shapes contexts runs.
      let w = written program shapes contexts runs in
      let outcomes = printed.outcomes in
      let long = printed.are.0 in
      let number : length (w.outcomes ++ outcomes) ≡ first + batch.count = omega (arith, length-append w.outcomes outcomes, w.number, long) in
      let lines : job_lines 0 (w.outcomes ++ outcomes) ≡ job_lines 0 w.outcomes ++ text =
      job_lines-append 0 first w.outcomes outcomes (omega (arith, w.number))
      ∙ ap (λ (l : List ℕ). job_lines 0 w.outcomes ++ l) (ap (λ (n : ℕ). job_lines n outcomes) (sym at) ∙ sym printed.lines) in
      record {
        outcomes = w.outcomes ++ outcomes;
        number = number;
        each = outcomes_append program shapes contexts 0 batch.first w.outcomes outcomes (omega (arith, w.number, at)) w.each
            (printed.are.1 program shapes contexts runs);
        written = subst (Appends old new) (sym lines) (Appends-trans old mid new (job_lines 0 w.outcomes) text w.written wrote);
      }

  -- what is written stays so, where nothing is added
  pub flushed : (n : ℕ) (old mid new : Option (List ℕ)) → HasWritten programs jobs n old mid → Keeps mid new → HasWritten programs jobs n old new
  flushed n old mid new written kept = λ program shapes contexts runs.
      let w = written program shapes contexts runs in
      record {
        outcomes = w.outcomes;
        number = w.number;
        each = w.each;
        written = Appends-kept old mid new (job_lines 0 w.outcomes) w.written kept;
      }

-- some of fewer are some of more
pub part_of_more : (program : List Insn) (shapes : List MapShape) (contexts : List (List ℕ)) (n m : ℕ) (old new : Option (List ℕ)) (fault : RunFault) →
    n ≤ m → WritesPart program shapes contexts n old new fault → WritesPart program shapes contexts m old new fault
part_of_more program shapes contexts n m old new (Pool fault) up part = (part.0, (let l : part.0 ≤ m = omega (arith, up, part.1) in l), part.2)
part_of_more program shapes contexts n m old new (Write error) up part = tt
