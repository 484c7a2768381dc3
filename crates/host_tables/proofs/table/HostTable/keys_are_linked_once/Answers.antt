use Rattle.bpf_model.proofs.Prelude.{subst}
use Rattle.table_words.proofs.Prelude.{AreLinkedOnce}
use Rattle.map_table.proofs.Prelude.{layout_of, TableView}
use Rattle.host_tables.specs.Tables.{OpenTable}
use Rattle.host_tables.proofs.table.HostTable.keys_are_linked_once.Goals as goal

pub returns : goal.returns
returns c =
    let seen = c.self.inside.writer.view.seen in
    subst (λ (t : OpenTable). AreLinkedOnce (layout_of t.table.shape) 0 t.writer.view.seen) c.self.view_is
    (subst (λ (t : TableView). AreLinkedOnce (layout_of t.shape) 0 seen) c.self.invariant.0 c.self.invariant.1.once)
