use Rattle.bpf_model.proofs.Prelude.{ℕ, length-replicate}
use Rattle.model_laws.proofs.Prelude.{FRAME_BYTES, fresh_view}
use Rattle.read_table.proofs.Prelude.{table_of}
use Rattle.shared_runs.proofs.Starting.{starts}
use Rattle.shared_runs.proofs.Stores.{stores-uses}
use Rattle.read_table.proofs.Stretches.{is_table}
use Rattle.read_table.proofs.run_laws.shared_run_starts.Goals as goal

pub returns : goal.returns
returns g = λ k c justified fits few whole context long bytes. starts (table_of k) (is_table k) c justified fits few
    (λ s. whole (stores-uses c s)) context long bytes (fresh_view 0 context).frame (length-replicate {A = ℕ} FRAME_BYTES 0)
