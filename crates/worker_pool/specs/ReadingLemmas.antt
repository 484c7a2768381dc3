-- What was right of a job stays so, from an earlier beginning to a later end. These are lemmas: they stand
-- here since ghost members of an `impl` may name only what stands in `specs/`; no reader of a clause needs
-- them.
use Rattle.std.specs.Prelude.{ℕ, List, [], ◌++◌, Option, Some, None, slice_get}
use Rattle.std.proofs.Common.{refl, sym, ap, subst, ◌∙◌, append_assoc, inl, inr}
use Rattle.verifier.specs.Checked.{Checked}
use Rattle.worker_pool.specs.declared.job.Job.{Job}
use Rattle.worker_pool.specs.declared.job.JobReport.{JobReport}
use Rattle.worker_pool.specs.declared.job.Outcome.{Outcome}
use Rattle.worker_pool.specs.TableJobs.{HasGrown, HasRunWithin, IsTableOutcome, IsTableJob, Runs}

module _ {Seat Move Name : Type 0} (mine : Seat → List Move) (name : Seat → Name) where
  pub grown_same : (w : Seat) → HasGrown mine name w w
  grown_same w = record { same = refl; moves = []; list = refl }

  pub grown_again : (u v w : Seat) → HasGrown mine name u v → HasGrown mine name v w → HasGrown mine name u w
  grown_again u v w a b = record {
    same = b.same ∙ a.same;
    moves = b.moves ++ a.moves;
    list = b.list ∙ (ap (λ ms. b.moves ++ ms) a.list ∙ sym (append_assoc b.moves a.moves (mine u)));
  }

  ran_wider : (IsRun : Runs Name Move) (c : Checked) (context : List ℕ) (t u v w : Seat) (value : ℕ) →
      HasGrown mine name t u → HasGrown mine name v w → HasRunWithin mine name IsRun c context u v value →
      HasRunWithin mine name IsRun c context t w value
  ran_wider IsRun c context t u v w value a b r = record {
    before = r.before ++ a.moves;
    moves = r.moves;
    after = b.moves ++ r.after;
    steps = r.steps;
    stretch = b.list ∙ (ap (λ ms. b.moves ++ ms) r.stretch
        ∙ (ap (λ ms. b.moves ++ (r.after ++ (r.moves ++ (r.before ++ ms)))) a.list
        ∙ (ap (λ ms. b.moves ++ (r.after ++ (r.moves ++ ms)))
        (sym (append_assoc r.before a.moves (mine t)))
        ∙ sym (append_assoc b.moves r.after (r.moves ++ ((r.before ++ a.moves) ++ mine t))))));
    exit = subst (λ (n : Name). IsRun n c context r.moves r.steps value) a.same r.exit;
    bounded = r.bounded;
  }

  outcome_wider : (IsRun : Runs Name Move) (Refuses : Checked → Type 0) (t u v w : Seat) (job : Job) (o : Option Checked)
      (outcome : Outcome) → HasGrown mine name t u → HasGrown mine name v w →
      IsTableOutcome mine name IsRun Refuses u v job o outcome → IsTableOutcome mine name IsRun Refuses t w job o outcome
  outcome_wider IsRun Refuses t u v w job None outcome a b h = h
  outcome_wider IsRun Refuses t u v w job (Some c) outcome a b (inl h) = inl h
  outcome_wider IsRun Refuses t u v w job (Some c) outcome a b (inr (inl h)) = inr (inl h)
  outcome_wider IsRun Refuses t u v w job (Some c) outcome a b (inr (inr h)) =
      inr (inr (h.0, h.1, h.2, h.3, ran_wider IsRun c job.ctx.items t u v w h.2 a b h.4))

  -- what is right stays so, from an earlier beginning to a later end
  pub job_wider : (IsRun : Runs Name Move) (Refuses : Checked → Type 0) (programs : List Checked) (t u v w : Seat) (job : Job)
      (report : JobReport (Unit {0})) → HasGrown mine name t u → HasGrown mine name v w →
      IsTableJob mine name IsRun Refuses programs u v job report → IsTableJob mine name IsRun Refuses programs t w job report
  job_wider IsRun Refuses programs t u v w job report a b h =
      outcome_wider IsRun Refuses t u v w job (slice_get programs job.prog) report.outcome a b h
