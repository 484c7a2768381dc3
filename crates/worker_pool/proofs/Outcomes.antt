-- What the outcomes of jobs say, where each is borne out by its trail.
use Rattle.bpf_model.proofs.Prelude.{◌≡◌, ◌≢◌, ℕ, List, [], ◌∷◌, get_or, refl, ap, sym, subst, inl, inr, Option, Some, None, Result, Ok, Err, slice_get}
use Rattle.bpf_model.proofs.Prelude.{none-some, HasNoMaps}
use Rattle.verifier.proofs.Prelude.{Checked}
use Rattle.world_laws.proofs.Prelude.{MayExitAs, ExitsAs}
use Rattle.bpf_model.specs.declared.insn.Insn.{Insn}
use Rattle.bpf_model.specs.declared.limits.MapShape.{MapShape}
use Rattle.bpf_model.specs.declared.event.Answer.{Answer}
use Rattle.bpf_model.specs.declared.event.Answer.TheVariants as answers
use Rattle.shared_books.specs.declared.fault.SharedFault.{SharedFault}
use Rattle.shared_books.specs.Receipts.{IsPossibleExit, IsOwnExit}
use Rattle.worker_pool.specs.declared.job.Job.{Job}
use Rattle.worker_pool.specs.declared.job.StopCause.{StopCause}
use Rattle.worker_pool.specs.declared.job.StopCause.TheVariants.{Fault, OtherRun, Refused, SubWord}
use Rattle.worker_pool.specs.declared.job.Outcome.{Outcome}
use Rattle.worker_pool.specs.declared.job.Outcome.TheVariants.{Exit, Stopped}
use Rattle.worker_pool.specs.declared.job.Trail.{Trail}
use Rattle.worker_pool.specs.declared.job.Trail.TheVariants as trails
use Rattle.worker_pool.specs.Trails.{FitsJob, StopsBy, TellsExit, stop_of}
use Rattle.worker_pool.specs.Outcomes.{IsExitOn, IsOnly, IsOutcomeOn, IsPoolStop}

no_stop : (n : ℕ) (run : Option ℕ) (cause : StopCause) → Exit n ≡ Stopped run cause → ⊥
no_stop n run cause e = cc

-- the only program is the first
first_program : (programs : List Checked) (code : List Insn) (shapes : List MapShape) → IsOnly code shapes programs → (p : Checked) ×
    (slice_get programs 0 ≡ Some p) × (p.program ≡ code) × (p.shapes ≡ shapes)
first_program [] code shapes e = absurd (let h : [] ≡ code ∷ [] = e.code in cc)
first_program (p ∷ programs) code shapes e =
    (p, refl, ap (λ (xs : List (List Insn)). get_or xs 0 code) e.code, ap (λ (xs : List (List MapShape)). get_or xs 0 shapes) e.maps)

-- why a reply is no answer has nothing to do with words
stop_by : (reply : Result Answer SharedFault) (cause : StopCause) → stop_of reply ≡ Some cause → cause ≢ SubWord
stop_by (Err fault) cause e same = absurd (let h : Some (Fault fault) ≡ Some cause = e in cc)
stop_by (Ok (answers.Refused refusal)) cause e same = absurd (let h : Some (Refused refusal) ≡ Some cause = e in cc)
stop_by (Ok (answers.Started run)) cause e same = absurd (none-some cause e)
stop_by (Ok answers.Moved) cause e same = absurd (none-some cause e)
stop_by (Ok (answers.Exited value)) cause e same = absurd (none-some cause e)
stop_by (Ok (answers.Ret ret)) cause e same = absurd (none-some cause e)
stop_by (Ok (answers.Found value)) cause e same = absurd (none-some cause e)
stop_by (Ok answers.Done) cause e same = absurd (none-some cause e)
stop_by (Ok (answers.Reaped element)) cause e same = absurd (none-some cause e)

told_cause : (run other : Option ℕ) (cause told : StopCause) → Stopped run cause ≡ Stopped other told → cause ≡ told
told_cause run other cause told e = cc

stopped_by : (reply : Result Answer SharedFault) (run other : Option ℕ) (cause : StopCause) →
    StopsBy reply other (Stopped run cause) → IsPoolStop cause
stopped_by reply run other cause h = subst IsPoolStop (sym (told_cause run other cause h.cause h.told)) (stop_by reply h.cause h.why)

other_run : (run other : Option ℕ) (cause : StopCause) → Stopped run cause ≡ Stopped other OtherRun → IsPoolStop cause
other_run run other cause told same = cc

exit_no_stop : (n : ℕ) (run : Option ℕ) (cause : StopCause) → Stopped run cause ≡ Exit n → ⊥
exit_no_stop n run cause e = cc

told_stop : (r value : ℕ) (run : Option ℕ) (cause : StopCause) (reply : Result Answer SharedFault) →
    TellsExit r value reply (Stopped run cause) → IsPoolStop cause
told_stop r value run cause reply (inl (done, is)) = absurd (exit_no_stop value run cause is)
told_stop r value run cause reply (inr stops) = stopped_by reply run (Some r) cause stops

-- so a job that was stopped was stopped by another cause
stop_outcome : {L : Type 0} (programs : List Checked) (job : Job) (run : Option ℕ) (cause : StopCause) (trail : Trail L) →
    FitsJob programs job (Stopped run cause) trail → IsPoolStop cause
stop_outcome programs job run cause (trails.Unstarted start) h = stopped_by start.reply run None cause h.stops
stop_outcome programs job run cause (trails.Halted start moves step) (r, started, same, halts) = stopped_by step.reply run (Some r) cause halts.stops
stop_outcome programs job run cause (trails.OtherRun start moves step note) (r, started, same, exits, asks, strange) =
    other_run run (Some r) cause strange.told
stop_outcome programs job run cause (trails.Ended start moves step note dropped) (r, started, same, exits, asks, x) =
    told_stop r x.value run cause dropped.reply x.told

module _ (programs : List Checked) (code : List Insn) (shapes : List MapShape) (only : IsOnly code shapes programs) where
  may_exit : (context : List ℕ) (n : ℕ) → IsPossibleExit (slice_get programs 0) context n →
      MayExitAs code shapes context n
  may_exit context n h =
      let f = first_program programs code shapes only in
      let here : MayExitAs f.0.program f.0.shapes context n = subst (λ (o : Option Checked). IsPossibleExit o context n) f.1 h in
      subst (λ (s : List MapShape). MayExitAs code s context n) f.3 (subst (λ (c : List Insn). MayExitAs c f.0.shapes context n) f.2 here)

  own_exit : (context : List ℕ) (n : ℕ) → IsOwnExit (slice_get programs 0) context n → HasNoMaps code → ExitsAs code context n
  own_exit context n h =
      let f = first_program programs code shapes only in
      subst (λ (c : List Insn). HasNoMaps c → ExitsAs c context n) f.2 (subst (λ (o : Option Checked). IsOwnExit o context n) f.1 h)

  own_program : (job : Job) (n : ℕ) → job.prog ≡ 0 → IsPossibleExit (slice_get programs job.prog) job.ctx.items n →
      IsOwnExit (slice_get programs job.prog) job.ctx.items n → IsExitOn code shapes job.ctx.items n
  own_program job n first may own =
      let at : slice_get programs job.prog ≡ slice_get programs 0 = ap (slice_get programs) first in
      record {
        may = may_exit job.ctx.items n (subst (λ (o : Option Checked). IsPossibleExit o job.ctx.items n) at may);
        alone = own_exit job.ctx.items n (subst (λ (o : Option Checked). IsOwnExit o job.ctx.items n) at own);
      }

  told_exit : (context : List ℕ) (n run value : ℕ) (reply : Result Answer SharedFault) → IsExitOn code shapes context value
      → TellsExit run value reply (Exit n) → IsExitOn code shapes context n
  told_exit context n run value reply v (inl (done, is)) = subst (IsOutcomeOn code shapes context) (sym is) v
  told_exit context n run value reply v (inr stops) = absurd (no_stop n (Some run) stops.cause stops.told)

  exit_outcome : {L : Type 0} (job : Job) (n : ℕ) (trail : Trail L) → job.prog ≡ 0 →
      FitsJob programs job (Exit n) trail → IsExitOn code shapes job.ctx.items n
  exit_outcome job n (trails.Unstarted start) first h = absurd (no_stop n None h.stops.cause h.stops.told)
  exit_outcome job n (trails.Halted start moves step) first (run, started, same, halts) = absurd (no_stop n (Some run) halts.stops.cause halts.stops.told)
  exit_outcome job n (trails.OtherRun start moves step note) first (run, started, same, exits, asks, strange) =
      absurd (no_stop n (Some run) OtherRun strange.told)
  exit_outcome job n (trails.Ended start moves step note dropped) first (run, started, same, exits, asks, x) =
      told_exit job.ctx.items n run x.value dropped.reply (own_program job x.value first x.may x.alone) x.told

  pub fits_outcome : {L : Type 0} (job : Job) (outcome : Outcome) (trail : Trail L) → job.prog ≡ 0 →
      FitsJob programs job outcome trail → IsOutcomeOn code shapes job.ctx.items outcome
  fits_outcome job (Exit n) trail first h = exit_outcome job n trail first h
  fits_outcome job (Stopped run cause) trail first h = stop_outcome programs job run cause trail h
