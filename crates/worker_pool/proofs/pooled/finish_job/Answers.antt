use Rattle.bpf_model.proofs.Prelude.{rules, sym, ◌∙◌, subst, refl, inl, inr, List, IfSome, slice_get}
use Rattle.verifier.proofs.Prelude.{Checked}
use Rattle.shared_books.specs.Receipts.{HasExitedOnce, IsPossibleExit, IsOwnExit}
use Rattle.worker_pool.specs.Trails.{HasExitReply}
use Rattle.worker_pool.proofs.pooled.finish_job.Goals.{in-Ok, in-Err-dropped}
use Rattle.worker_pool.proofs.pooled.finish_job.Goals as goal

pub returns-in_default-exit-clause-fits : goal.returns-in_default-exit-clause-fits
returns-in_default-exit-clause-fits g c =
    let s = c.step_to_end-moves.ensures in
    let n = c.exit_noted-note.ensures.noted in (
      c.args.run,
      c.requires.started,
      s.run,
      record { event = s.event; exits = subst HasExitReply c.reply.ensures c.in_default.ensures.ok },
      record {
        worker = n.worker ∙ (s.later.number ∙ sym s.by.worker);
        count = n.count ∙ sym s.count;
        run_is = n.run_is;
        prog = n.prog_is;
        context = n.context_is;
      },
      record { none = sym c.exit.ensures ∙ c.in_default-exit.is; told = refl },
    )

pub returns-clause-fits : goal.returns-clause-fits
returns-clause-fits g c =
    let s = c.step_to_end-moves.ensures in
    let n = c.exit_noted-note.ensures.noted in
    let noted = sym c.exit.ensures ∙ c.in-Some.is in (
      c.args.run,
      c.requires.started,
      s.run,
      record { event = s.event; exits = subst HasExitReply c.reply.ensures c.in_default.ensures.ok },
      record {
        worker = n.worker ∙ (s.later.number ∙ sym s.by.worker);
        count = n.count ∙ sym s.count;
        run_is = n.run_is;
        prog = n.prog_is;
        context = n.context_is;
      },
      record {
        value = c.in-Some.value;
        noted = noted;
        exited = subst (λ o. IfSome o (HasExitedOnce c.args.held.now c.args.run c.args.job.now.prog c.args.job.now.ctx.items)) noted
            (subst (λ (p : List Checked). IfSome c.exit_noted-note.result.exit
            (HasExitedOnce p c.args.run c.args.job.now.prog c.args.job.now.ctx.items)) s.programs n.exit);
        may = subst (λ o. IfSome o (IsPossibleExit (slice_get c.args.held.now c.args.job.now.prog) c.args.job.now.ctx.items)) noted
            (subst (λ (p : List Checked). IfSome c.exit_noted-note.result.exit
            (IsPossibleExit (slice_get p c.args.job.now.prog) c.args.job.now.ctx.items)) s.programs n.may);
        alone = subst (λ o. IfSome o (IsOwnExit (slice_get c.args.held.now c.args.job.now.prog) c.args.job.now.ctx.items)) noted
            (subst (λ (p : List Checked). IfSome c.exit_noted-note.result.exit
            (IsOwnExit (slice_get p c.args.job.now.prog) c.args.job.now.ctx.items)) s.programs n.alone);
        event = c.act_noted-end.ensures.noted.asked;
        told = elim c.match-dropped.branch [
          | in-Ok w ↦ inl (search rules, search rules)
          | in-Err-dropped w ↦
              inr (record { cause = w.in-Err-dropped.cause; why = search rules; told = search rules })
        ];
      },
    )
