use Rattle.bpf_model.proofs.Prelude.{ℕ, length, ap, ◌∙◌, List, length-replicate}
use Rattle.model_laws.proofs.Prelude.{FRAME_BYTES}
use Rattle.shared_runs.proofs.alone.driver.run_over.Goals as goal

pub finish-requires-clause-cells : goal.finish-requires-clause-cells
finish-requires-clause-cells c = ap (λ (cells : List ℕ). length cells) c.start-workspace.ensures.frame ∙ length-replicate {A = ℕ} FRAME_BYTES 0
