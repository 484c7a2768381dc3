use Rattle.bpf_model.proofs.Prelude.{ℕ, List, length, ap, subst, ◌∙◌, length-replicate}
use Rattle.model_laws.proofs.Prelude.{FRAME_BYTES}
use Rattle.shared_runs.specs.Running.{RunsOver}
use Rattle.shared_runs.proofs.running.run_over.Goals as goal

pub finish-requires-clause-context : goal.finish-requires-clause-context
finish-requires-clause-context g c = ap length c.as_slice.ensures.value ∙ c.requires.context

pub finish-requires-clause-cells : goal.finish-requires-clause-cells
finish-requires-clause-cells g c = ap (λ (cells : List ℕ). length cells) c.start-workspace.ensures.frame ∙ length-replicate {A = ℕ} FRAME_BYTES 0

pub returns-clause-runs : goal.returns-clause-runs
returns-clause-runs g c =
    let t = g.T.ServesRuns in
    let w = c.args.words.now in
    subst (λ (bytes : List ℕ). RunsOver (t.table w) (t.Goes w) c.args.verified.now bytes c.args.seat.now c.finish.new.seat c.finish.result)
    c.as_slice.ensures.value c.finish.ensures.runs
