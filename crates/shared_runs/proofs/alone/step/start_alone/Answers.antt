use Rattle.bpf_model.proofs.Prelude.{ℕ, [], sym, subst, length-replicate, AreBytes}
use Rattle.model_laws.proofs.Prelude.{FRAME_BYTES, fresh_view}
use Rattle.shared_runs.specs.Lone.{StandsAlone}
use Rattle.shared_runs.proofs.Starting.{starts-alone}
use Rattle.shared_runs.proofs.alone.step.start_alone.Goals as goal

pub returns-clause-run : goal.returns-clause-run
returns-clause-run c =
    let v = c.args.verified.now in
    record {
      at = c.start.ensures.run v.program;
      stands = subst (StandsAlone v) (sym c.start.ensures.view)
          (starts-alone v c.program-program.ensures.justified c.args.ctx.now.items c.requires.context
          (subst AreBytes c.as_slice.ensures.value c.are_bytes.ensures) (fresh_view 0 []).frame
          (length-replicate {A = ℕ} FRAME_BYTES 0) c.requires.maps);
    }
