-- The table's calls are the moves of its seats, and a run leaves a seat that is ready.
use Rattle.bpf_model.proofs.Prelude.{◌≡◌, ℕ, ◌∙◌, List}
use Rattle.read_table.proofs.Prelude.{Goes, Holder, IsKnown, IsReady, TableView, inside, table_of}
use Rattle.verifier.proofs.Prelude.{Checked}
use Rattle.read_table.proofs.Going.{goes_known, goes_mine, goes_none, goes_then}
use Rattle.shared_runs.specs.Tables.{AreSteps}
use Rattle.read_table.specs.Running.{RunsShared}

pub are_steps : (here : TableView) → AreSteps (table_of here.shape) (λ (s : Holder). (s.table ≡ here) × IsKnown s.view) (λ (s : Holder). s.view.mine) Goes
are_steps here = record {
  none = λ s at. goes_none s at.1;
  then = λ s t u ms ns g h. goes_then s t u ms ns g h;
  listed = λ s t ms g. goes_mine s t ms g;
  stays = λ s t ms at g. (g.table ∙ at.0, goes_known s t ms g);
}

pub ready-after : (here : TableView) (c : Checked) (context : List ℕ) (old new : Holder) (value : ℕ) → IsReady here old →
    RunsShared here.shape c context old new value → inside new.view.mine ≡ 0 → IsReady here new
ready-after here c context old new value ready r outside = record {
  table = r.list.table ∙ ready.table;
  outside = outside;
  known = goes_known old new r.moves r.list;
}
