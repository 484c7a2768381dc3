use Rattle.bpf_model.proofs.Prelude.{rules, ◌≡◌, ℕ, inl, inr, refl, sym, ap, subst, ◌∙◌, [], length, Some, Option, slice_get, false≢true, slice_get_read}
use Rattle.verifier.proofs.Prelude.{Checked}
use Rattle.worker_pool.specs.declared.job.Outcome.TheVariants.{Exit}
use Rattle.worker_pool.specs.TableJobs.{IsTableOutcome}
use Rattle.worker_pool.proofs.TableJobs.{gains_nothing}
use Rattle.worker_pool.proofs.reading.ReadingServe.serve.Goals as goal

pub returns-in-Ok-clause-fits : goal.returns-in-Ok-clause-fits
returns-in-Ok-clause-fits g c =
    let t = g.T.RunsPrograms in
    let v = c.in-Some.verified.now in
    let here : slice_get c.args.self.now.programs.now c.args.job.now.prog ≡ Some v =
    (let q = c.in-Some.ensures.lookup in ap (λ (n : ℕ). slice_get c.args.self.now.programs.now n)
    (sym c.index.ensures) ∙ slice_get_read c.args.self.now.programs.now (length c.args.self.now.programs.now)
    c.index.result v refl q.3.0 q.1) in
    let long : length c.args.job.now.ctx.items ≡ v.ctx_len = search rules in
    let r = c.in-Ok.ensures.runs in
    let whole : t.Refuses v → ⊥ = λ u. absurd (false≢true (c.in-Ok.ensures.refused.1 u)) in
    subst (λ (o : Option Checked). IsTableOutcome t.mine t.name (t.IsRun c.args.self.now.table.now) t.Refuses c.args.seat.now
    c.run.new.seat c.args.job.now o (Exit c.in-Ok.value)) (sym here)
    (inr (inr (
      long,
      whole,
      c.in-Ok.value,
      refl,
      record {
        before = [];
        moves = r.moves;
        after = [];
        steps = r.steps;
        stretch = r.list;
        exit = r.run;
        bounded = r.bounded;
      },
    )))

pub returns-in-Err-clause-fits : goal.returns-in-Err-clause-fits
returns-in-Err-clause-fits g c =
    let t = g.T.RunsPrograms in
    let v = c.in-Some.verified.now in
    let here : slice_get c.args.self.now.programs.now c.args.job.now.prog ≡ Some v =
    (let q = c.in-Some.ensures.lookup in ap (λ (n : ℕ). slice_get c.args.self.now.programs.now n)
    (sym c.index.ensures) ∙ slice_get_read c.args.self.now.programs.now (length c.args.self.now.programs.now)
    c.index.result v refl q.3.0 q.1) in
    let long : length c.args.job.now.ctx.items ≡ v.ctx_len = search rules in
    let uses : t.Refuses v = c.in-Err.ensures.refused.0 refl in
    subst (λ (o : Option Checked). IsTableOutcome t.mine t.name (t.IsRun c.args.self.now.table.now) t.Refuses c.args.seat.now
    c.run.new.seat c.args.job.now o c.unbegun-in-Err.result.outcome) (sym here)
    (inr (inl (long, uses, c.unbegun-in-Err.ensures)))

pub returns-in-Ok-clause-gains : goal.returns-in-Ok-clause-gains
returns-in-Ok-clause-gains g c =
    let v = c.in-Some.verified.now in
    let here : slice_get c.args.self.now.programs.now c.args.job.now.prog ≡ Some v =
    (let q = c.in-Some.ensures.lookup in ap (λ (n : ℕ). slice_get c.args.self.now.programs.now n)
    (sym c.index.ensures) ∙ slice_get_read c.args.self.now.programs.now (length c.args.self.now.programs.now)
    c.index.result v refl q.3.0 q.1) in
    let r = c.in-Ok.ensures.runs in
    record { same = c.in-Ok.ensures.name; moves = r.moves; list = r.list; of_job = (v, here, r.steps, r.run) }

pub returns-in-Err-clause-gains : goal.returns-in-Err-clause-gains
returns-in-Err-clause-gains g c =
    let t = g.T.RunsPrograms in
    gains_nothing t.mine t.name (t.IsRun c.args.self.now.table.now) c.args.self.now.programs.now c.args.seat.now c.run.new.seat
    c.args.job.now c.unbegun-in-Err.result _ c.in-Err.ensures.unchanged c.unbegun-in-Err.ensures
